use Rattle.std.proofs.Common.{◌≡◌, ◌∙◌, sym, ap, subst}
use Rattle.mk_lines.specs.Cells.{line_cells}
use Rattle.mk_lines.specs.Ranges.{text_at, word_ranges}
use Rattle.mk_tree.specs.LocatedLines.{text_of_line}
use Rattle.mk_tree.specs.Trees.{line_view}
use Rattle.mk_edit_parts.specs.LineChangePlaces.{word_places, AreNoted}
use Rattle.mk_edit_parts.proofs.on_renaming.RangeLemmas.{part-words}
use Rattle.mk_edit_parts.proofs.on_values.PlacesNoted.{noted-none}
use Rattle.mk_edit_parts.proofs.line_change.with_words.Goals as goal

pub words-init : goal.words-init
words-init g c =
    let cs = line_cells (line_view c.args.line.now).bytes in
    let t = text_of_line (line_view c.args.line.now) in
    let v = c.args.value in
    let e : c.into_iter-word-iterator.result ≡ word_ranges (text_at t v) =
    c.into_iter-word-iterator.ensures.into_iter_gives ∙ (c.words-word-items.ensures.words ∙ ap word_ranges (c.part.ensures ∙ ap (λ z. text_at z v) c.text_of_line-text.ensures)) in
    (tt, tt, part-words cs v _ c.requires.within e, subst (λ ws. AreNoted cs (word_places t v.start c.args.side c.args.wanted.now (word_ranges (text_at t v))) (word_places t v.start c.args.side c.args.wanted.now ws) c.args.places) (sym e) (noted-none cs _ _ c.requires.none))
