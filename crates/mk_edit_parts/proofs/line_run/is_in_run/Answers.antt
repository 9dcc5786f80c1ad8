use Rattle.std.proofs.Common.{◌≡◌, ◌≤◌, ◌∙◌, ◌+◌, ◌-◌, ◌||◌, ap, sym, arith, drop, length, true, false}
use Rattle.mk_tree.specs.Trees.{line_view}
use Rattle.mk_tree.proofs.AdmissionLemmas.{drop-none, drop-step}
use Rattle.mk_edit_language.specs.LineRuns.{block_lines}
use Rattle.mk_edit_parts.proofs.on_recipes.WalkLemmas.{past-end}
use Rattle.mk_edit_parts.proofs.on_line_runs.RunsCovered.{in_run_from, in_run-near, in_run-on, in_run-past, in_run-told, run-few}
use Rattle.mk_edit_parts.proofs.line_run.is_in_run.Goals as goal

pub lines-init : goal.lines-init
lines-init g c =
    let b = block_lines c.args.block.now in
    let end = c.args.at + c.args.count in
    let first : c.saturating_sub-first.result ≡ end - length b = c.saturating_sub-first.ensures ∙ ap (λ n. end - n) c.line_count.ensures in (
      sym c.lines_from-lines.ensures,
      ap (in_run_from b c.args.at end c.saturating_sub-first.result) c.lines_from-lines.ensures
          ∙ (ap (λ n. in_run_from b c.args.at end n (drop n c.args.doc.now)) first ∙ in_run-near b c.args.at end c.args.doc.now c.requires.faithful),
    )

pub unreachable-requires : goal.unreachable-requires
unreachable-requires g c = drop-none c.args.doc.now c.lines.start (omega arith) (c.lines.invariant.0 ∙ c.in_default.ensures.steps.0)

pub holds-requires : goal.holds-requires
holds-requires g c = record { few = run-few c.length_at-run.result c.lines.start (length c.args.doc.now) c.len.ensures.few c.length_at-run.ensures.within }

pub returns-then-start-at : goal.returns-then-start-at
returns-then-start-at g c =
    let b = block_lines c.args.block.now in
    let end = c.args.at + c.args.count in
    in_run-told b c.args.at c.args.count c.args.doc.now false c.requires.faithful (sym (in_run-past b c.args.at end c.lines.start c.lines.lines c.if-start-at.true) ∙ c.lines.invariant.1)

pub returns-then-holds : goal.returns-then-holds
returns-then-holds g c =
    let b = block_lines c.args.block.now in
    let end = c.args.at + c.args.count in
    let l = line_view c.in-Some.line.now in
    let ahead = c.in-Some.ensures.steps in
    let on = in_run-on b c.args.at end c.lines.start c.args.doc.now c.next.new.self l c.length_at-run.result (c.lines.invariant.0 ∙ ahead) c.length_at-run.ensures.run in
    let holds = sym c.holds.ensures ∙ c.if-holds.true in
    in_run-told b c.args.at c.args.count c.args.doc.now true c.requires.faithful
    (sym (ap (in_run_from b c.args.at end c.lines.start) ahead ∙ (on ∙ ap (λ q. q || in_run_from b c.args.at end (c.lines.start + 1) c.next.new.self) holds)) ∙ c.lines.invariant.1)

pub lines-preserved : goal.lines-preserved
lines-preserved g c =
    let b = block_lines c.args.block.now in
    let end = c.args.at + c.args.count in
    let l = line_view c.in-Some.line.now in
    let ahead = c.in-Some.ensures.steps in
    let here = c.lines.invariant.0 ∙ ahead in
    let on = in_run-on b c.args.at end c.lines.start c.args.doc.now c.next.new.self l c.length_at-run.result here c.length_at-run.ensures.run in
    let holds = sym c.holds.ensures ∙ c.if-holds.false in (
      drop-step c.args.doc.now c.next.new.self l c.lines.start here,
      sym (ap (in_run_from b c.args.at end c.lines.start) ahead ∙ (on ∙ ap (λ q. q || in_run_from b c.args.at end (c.lines.start + 1) c.next.new.self) holds)) ∙ c.lines.invariant.1,
    )

pub returns : goal.returns
returns g c =
    let b = block_lines c.args.block.now in
    let end = c.args.at + c.args.count in
    let past : length c.args.doc.now ≤ c.lines.start = omega arith in
    let none = sym c.lines.invariant.0 ∙ past-end c.args.doc.now c.lines.start past in
    in_run-told b c.args.at c.args.count c.args.doc.now false c.requires.faithful (sym (ap (in_run_from b c.args.at end c.lines.start) none) ∙ c.lines.invariant.1)
