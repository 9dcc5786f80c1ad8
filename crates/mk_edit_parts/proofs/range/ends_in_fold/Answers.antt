use Rattle.std.proofs.Common.{◌≡◌, ◌∙◌, ◌-◌, ap, sym, arith, ℕ, suc, drop, take}
use Rattle.mk_lines.specs.Cells.{line_cells}
use Rattle.mk_lines.specs.CellFaults.{is_fold}
use Rattle.mk_class.specs.ListTests.{last_passes}
use Rattle.mk_tree.specs.Trees.{line_view}
use Rattle.mk_edit_parts.specs.LineRanges.{ends_in_fold_in}
use Rattle.mk_edit_parts.proofs.on_finding.PartLemmas.{seen-assign}
use Rattle.mk_edit_parts.proofs.on_values.LastCells.{last-in_range}
use Rattle.mk_edit_parts.proofs.on_values.ValueCells.{assign-no_stray}
use Rattle.mk_edit_parts.proofs.range.ends_in_fold.Goals as goal

pub is_fold_at-requires-clause-within : goal.is_fold_at-requires-clause-within
is_fold_at-requires-clause-within g c =
    let S = seen-assign (line_view c.args.line.now) c.requires _ _ (sym c.class.ensures ∙ c.in-Assign.is) in
    omega (arith, S.2.value.within, c.if-value.true)

pub is_fold_at-requires-clause-readable : goal.is_fold_at-requires-clause-readable
is_fold_at-requires-clause-readable g c =
    let l = line_view c.args.line.now in
    let S = seen-assign l c.requires _ _ (sym c.class.ensures ∙ c.in-Assign.is) in
    assign-no_stray c.requires.context l.bytes S.0 _ S.1

pub returns-then-value : goal.returns-then-value
returns-then-value g c =
    let l = line_view c.args.line.now in
    let S = seen-assign l c.requires _ _ (sym c.class.ensures ∙ c.in-Assign.is) in
    let cs = line_cells l.bytes in
    let at = c.in-Assign.assignment.value in
    let n = (at.end - 1) - at.start in
    let width : suc n ≡ at.end - at.start = omega (arith, c.if-value.true) in
    c.is_fold_at.ensures
    ∙ (sym (last-in_range is_fold cs at.start n (at.end - 1) (omega (arith, c.if-value.true)) (omega (arith, S.2.value.within, c.if-value.true)))
    ∙ (ap (λ (k : ℕ). last_passes is_fold (take k (drop at.start cs))) width
    ∙ ap (ends_in_fold_in cs) (sym (sym c.class.ensures ∙ c.in-Assign.is))))
