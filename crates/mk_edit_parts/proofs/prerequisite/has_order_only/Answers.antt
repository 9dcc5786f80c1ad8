use Rattle.std.proofs.Common.{◌∙◌, ap}
use Rattle.mk_lines.specs.Cells.{line_cells}
use Rattle.mk_class.specs.Texts.{is_one_of}
use Rattle.mk_lines.specs.Ranges.{text_at}
use Rattle.mk_lines.specs.Words.{words_in}
use Rattle.mk_tree.specs.Trees.{line_view}
use Rattle.mk_edit_parts.proofs.on_prerequisites.WordRangeLemmas.{part-words}
use Rattle.mk_edit_parts.proofs.prerequisite.has_order_only.Goals as goal

pub returns : goal.returns
returns g c = λ h s.
    let w = c.args.word.now in
    c.has_word.ensures
    ∙ (ap (λ z. is_one_of w (words_in z)) (c.part.ensures ∙ (ap (λ t. text_at t c.order_only.result) c.text_of_line.ensures ∙ ap (text_at _) c.order_only.ensures))
    ∙ ap (is_one_of w) (part-words (line_cells (line_view c.args.line.now).bytes) _ _ _ h.order_only s.located.order_only))
