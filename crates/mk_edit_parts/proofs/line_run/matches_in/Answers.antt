use Rattle.std.proofs.Common.{◌≡◌, ◌∙◌, ◌+◌, ◌∷◌, [], refl, ap, arith, sym, subst, drop, get_or}
use Rattle.mk_class.specs.Contexts.{context_after_located}
use Rattle.mk_tree.specs.Trees.{line_view}
use Rattle.mk_tree.proofs.AdmissionLemmas.{drop-step}
use Rattle.mk_edit_language.specs.LineRuns.{block_lines}
use Rattle.mk_edit_parts.specs.LineRunWalks.{SayAlone}
use Rattle.mk_edit_parts.proofs.on_line_runs.SameLines.{alone-below, alone-fewer, begin-fewer}
use Rattle.mk_edit_parts.proofs.on_line_runs.RunsMatched.{matched-first, matched-on, matched-all}
use Rattle.mk_edit_parts.proofs.line_run.matches_in.Goals as goal

pub lines-init : goal.lines-init
lines-init g c = (matched-first (block_lines c.args.block.now) c.args.wanted c.args.doc.now c.args.window c.args.matches _ c.requires.in_range c.requires.admitted c.requires.few c.lines_from-lines.ensures, tt)

pub lines-preserved : goal.lines-preserved
lines-preserved g c =
    let l = line_view c.in-Some.line.now in
    let next : c.step-context.result ≡ context_after_located c.lines.context l.class = c.step-context.ensures.located ∙ ap (context_after_located c.lines.context) c.class.ensures in
    let x = get_or (block_lines c.args.block.now) 0 [] in
    let here : drop c.lines.at c.args.doc.now ≡ l ∷ c.next.new.self = c.lines.invariant.0.here ∙ c.in-Some.ensures.steps in
    let below : drop (c.lines.at + 1) c.args.doc.now ≡ c.next.new.self = drop-step c.args.doc.now c.next.new.self l c.lines.at here in (
      matched-on (block_lines c.args.block.now) c.args.wanted c.args.doc.now c.args.window c.args.matches c.lines.found c.with_run-found.result c.lines.passed (record { at = c.lines.at; context = c.lines.context }) (record { at = c.lines.at + 1; context = c.step-context.result }) _
          c.next.new.self l c.length_past-run.result c.lines.invariant.0 c.lines-test.true c.in-Some.ensures.steps c.length_past-run.ensures.run c.with_run-found.ensures refl next,
      subst (SayAlone x c.saturating_sub-known.result) (sym below) (subst (λ n. SayAlone x n c.next.new.self) (sym c.saturating_sub-known.ensures) (alone-below x c.known_at-known.result (drop c.lines.at c.args.doc.now) c.next.new.self l here c.known_at-known.ensures)),
    )

pub length_past-run-requires-clause-here : goal.length_past-run-requires-clause-here
length_past-run-requires-clause-here g c =
    let l = line_view c.in-Some.line.now in
    let here : drop c.lines.at c.args.doc.now ≡ l ∷ c.next.new.self = c.lines.invariant.0.here ∙ c.in-Some.ensures.steps in
    here ∙ ap (λ z. l ∷ z) (sym (drop-step c.args.doc.now c.next.new.self l c.lines.at here))

pub length_past-run-requires-clause-same : goal.length_past-run-requires-clause-same
length_past-run-requires-clause-same g c = begin-fewer _ _ c.args.same _ (omega (arith, c.min.ensures)) c.requires.same

pub length_past-run-requires-clause-alone : goal.length_past-run-requires-clause-alone
length_past-run-requires-clause-alone g c = alone-fewer _ _ c.known_at-known.result _ (omega (arith, c.min.ensures)) c.known_at-known.ensures

pub returns : goal.returns
returns g c = matched-all (block_lines c.args.block.now) c.args.wanted c.args.doc.now c.args.window c.args.matches c.lines.found c.lines.passed (record { at = c.lines.at; context = c.lines.context }) c.lines.lines c.lines-test.false c.lines.invariant.0
