use Rattle.std.proofs.Common.{sym, ap, ◌∙◌, drop}
use Rattle.mk_lines.specs.Ranges.{text_at}
use Rattle.mk_tree.specs.LocatedLines.{text_of_line}
use Rattle.mk_tree.specs.Trees.{line_view}
use Rattle.mk_edit_language.specs.LineChanges.{stated}
use Rattle.mk_edit_parts.specs.LineChangePlaces.{rewrite_view}
use Rattle.mk_edit_parts.specs.RenamedRanges.{span}
use Rattle.mk_edit.proofs.on_line_changes.LinesMade.{said-left}
use Rattle.mk_edit.proofs.on_value_changes.ChangedBytes.{mapped}
use Rattle.mk_edit.proofs.change_line.new_front.Goals as goal

pub returns-then-is_operator-clause-value : goal.returns-then-is_operator-clause-value
returns-then-is_operator-clause-value g c =
    let d = rewrite_view c.args.change in
    let at = c.args.assignment in
    mapped _ _ c.from_slice.result
    (λ v h.
    ap (λ z. stated d (drop at.value.start z)) (h ∙ (c.part-front.ensures ∙ ap (λ z. text_at z (span 0 at.value.end)) c.text_of_line.ensures))
    ∙ said-left d (text_of_line (line_view c.args.line.now)) at c.args.ranges.now c.args.new.now c.requires.can.rises (sym c.is_operator.ensures ∙ c.if-is_operator.true))
    c.from_slice.ensures.items
