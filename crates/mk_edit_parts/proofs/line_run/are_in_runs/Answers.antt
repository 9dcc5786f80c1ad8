use Rattle.std.proofs.Common.{◌≤◌, ◌∙◌, ◌+◌, ◌&&◌, ap, sym, arith, length}
use Rattle.mk_tree.specs.Trees.{line_view}
use Rattle.mk_tree.proofs.AdmissionLemmas.{drop-none, drop-step}
use Rattle.mk_edit_language.specs.LineRuns.{block_lines}
use Rattle.mk_edit_parts.proofs.on_recipes.WalkLemmas.{past-end}
use Rattle.mk_edit_parts.proofs.on_line_runs.RunsCovered.{each_held, each-on, each-told, run-few}
use Rattle.mk_edit_parts.proofs.line_run.are_in_runs.Goals as goal

pub lines-init : goal.lines-init
lines-init g c = (sym c.iter-lines.ensures.lines, ap (each_held (block_lines c.args.new.now) (block_lines c.args.block.now) 0 0) c.iter-lines.ensures.lines)

pub unreachable-requires : goal.unreachable-requires
unreachable-requires g c = drop-none c.args.doc.now c.lines.at (omega arith) (c.lines.invariant.0 ∙ c.in_default.ensures.steps.0)

pub reached-reach-requires : goal.reached-reach-requires
reached-reach-requires g c = record { few = run-few c.length_at-new_run.result c.lines.at (length c.args.doc.now) c.len.ensures.few c.length_at-new_run.ensures.within }

pub is_reached-requires : goal.is_reached-requires
is_reached-requires g c = record { few = run-few c.length_at-run.result c.lines.at (length c.args.doc.now) c.len.ensures.few c.length_at-run.ensures.within }

pub returns-then-not-is_reached : goal.returns-then-not-is_reached
returns-then-not-is_reached g c =
    let t = block_lines c.args.new.now in
    let b = block_lines c.args.block.now in
    let d = c.args.doc.now in
    let ahead = c.in-Some.ensures.steps in
    let on = each-on t b c.lines.reach c.reached-reach.result c.lines.at d c.next.new.self (line_view c.in-Some.line.now) c.length_at-new_run.result c.length_at-run.result (c.lines.invariant.0 ∙ ahead) c.length_at-new_run.ensures.run c.reached-reach.ensures c.length_at-run.ensures.run in
    let is = sym c.is_reached.ensures ∙ c.if-not-is_reached.true in
    sym (ap (each_held t b c.lines.reach c.lines.at) ahead ∙ (on ∙ ap (λ q. q && each_held t b c.reached-reach.result (c.lines.at + 1) c.next.new.self) is)) ∙ (c.lines.invariant.1 ∙ each-told t b d c.requires)

pub lines-preserved : goal.lines-preserved
lines-preserved g c =
    let t = block_lines c.args.new.now in
    let b = block_lines c.args.block.now in
    let d = c.args.doc.now in
    let l = line_view c.in-Some.line.now in
    let ahead = c.in-Some.ensures.steps in
    let here = c.lines.invariant.0 ∙ ahead in
    let on = each-on t b c.lines.reach c.reached-reach.result c.lines.at d c.next.new.self l c.length_at-new_run.result c.length_at-run.result here c.length_at-new_run.ensures.run c.reached-reach.ensures c.length_at-run.ensures.run in
    let is = sym c.is_reached.ensures ∙ c.if-not-is_reached.false in (
      drop-step d c.next.new.self l c.lines.at here,
      sym (ap (each_held t b c.lines.reach c.lines.at) ahead ∙ (on ∙ ap (λ q. q && each_held t b c.reached-reach.result (c.lines.at + 1) c.next.new.self) is)) ∙ c.lines.invariant.1,
    )

pub returns : goal.returns
returns g c =
    let t = block_lines c.args.new.now in
    let b = block_lines c.args.block.now in
    let d = c.args.doc.now in
    let past : length d ≤ c.lines.at = omega arith in
    let none = sym c.lines.invariant.0 ∙ past-end d c.lines.at past in
    sym (ap (each_held t b c.lines.reach c.lines.at) none) ∙ (c.lines.invariant.1 ∙ each-told t b d c.requires)
