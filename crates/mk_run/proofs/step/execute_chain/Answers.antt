use Rattle.std.proofs.Common.{◌≡◌, ◌+◌, ◌∙◌, refl, sym, subst, suc, drop, map, List, ℕ, arith, rules}
use Rattle.std.specs.Prelude.{Result}
use Rattle.mk_edit_language.specs.EditViews.{edit_of}
use Rattle.mk_session.proofs.on_sessions.AnswerLemmas.{edit-answered}
use Rattle.mk_script.specs.Scripts.{EditAt, numbered_edit}
use Rattle.mk_run.specs.ExecutedSteps.{chain_end, ChainTries}
use Rattle.mk_run.specs.RunSteps.{ComesTo}
use Rattle.mk_run.specs.declared.step.RefusedCommand.{RefusedCommand}
use Rattle.mk_run.proofs.on_runs.ExecuteLemmas.{mapped-drop, mapped-dropped}
use Rattle.mk_run.proofs.on_runs.StepLemmas.{IsPassedTo, passed-none, passed-next, chain-ends, chain-lasts, from-first}
use Rattle.mk_run.proofs.step.execute_chain.Goals as goal

pub loop-other-init : goal.loop-other-init
loop-other-init g c = record { told = search rules; same = refl; passed = passed-none (numbered_edit c.args.first.now) (map numbered_edit c.args.others.now) c.args.session.now.shown }

pub loop-other-preserved : goal.loop-other-preserved
loop-other-preserved g c =
    let first = numbered_edit c.args.first.now in
    let others = map numbered_edit c.args.others.now in
    let i = c.loop-other.other-index in
    let tried = numbered_edit c.loop-other.tried.now in
    let next_edit = numbered_edit c.other-item.result in
    let said = c.apply-answer.ensures in
    let answered = edit-answered (edit_of c.loop-other.tried.now.edit) c.apply-answer.result c.loop-other.session c.apply-answer.new.session said.done said.refused said.same said.few_read in
    let passed = subst (λ (l : List EditAt). IsPassedTo first others c.loop-other.session.shown tried l) (mapped-drop numbered_edit c.args.others.now i c.other-item.result c.loop-other-test.true c.other-item.is) c.loop-other.invariant.passed in
    let next = passed-next first others tried next_edit (drop (suc i) others) c.apply-answer.result c.loop-other.session c.apply-answer.new.session passed answered (sym c.passes_over.ensures ∙ c.if-not-passes_over.false) in
    let more : suc i ≡ i + 1 = omega arith in
    record {
      told = search rules;
      same = next.1 ∙ c.loop-other.invariant.same;
      passed = subst (λ (k : ℕ). IsPassedTo first others c.apply-answer.new.session.shown next_edit (drop k others)) more next.0;
    }

pub returns-then-not-passes_over-clause-executed : goal.returns-then-not-passes_over-clause-executed
returns-then-not-passes_over-clause-executed g c =
    let first = numbered_edit c.args.first.now in
    let others = map numbered_edit c.args.others.now in
    let i = c.loop-other.other-index in
    let tried = numbered_edit c.loop-other.tried.now in
    let next_edit = numbered_edit c.other-item.result in
    let said = c.apply-answer.ensures in
    let answered = edit-answered (edit_of c.loop-other.tried.now.edit) c.apply-answer.result c.loop-other.session c.apply-answer.new.session said.done said.refused said.same said.few_read in
    let passed = subst (λ (l : List EditAt). IsPassedTo first others c.loop-other.session.shown tried l) (mapped-drop numbered_edit c.args.others.now i c.other-item.result c.loop-other-test.true c.other-item.is) c.loop-other.invariant.passed in
    subst (λ (q : Result (Unit {0}) RefusedCommand). ComesTo (chain_end first others c.args.session.now.shown) (λ d. ChainTries first others c.args.session.now.shown d) q c.args.session.now.shown c.apply-answer.new.session.shown)
    (sym c.chain_answer.ensures)
    (from-first first others _ c.loop-other.session.shown c.args.session.now.shown c.apply-answer.new.session.shown c.loop-other.invariant.same
    (chain-ends first others tried next_edit (drop (suc i) others) c.apply-answer.result c.loop-other.session c.apply-answer.new.session passed answered (sym c.passes_over.ensures ∙ c.if-not-passes_over.true)))

pub returns-clause-executed : goal.returns-clause-executed
returns-clause-executed g c =
    let first = numbered_edit c.args.first.now in
    let others = map numbered_edit c.args.others.now in
    let tried = numbered_edit c.loop-other.tried.now in
    let said = c.apply.ensures in
    let answered = edit-answered (edit_of c.loop-other.tried.now.edit) c.apply.result c.loop-other.session c.apply.new.session said.done said.refused said.same said.few_read in
    let passed = subst (λ (l : List EditAt). IsPassedTo first others c.loop-other.session.shown tried l)
    (mapped-dropped numbered_edit c.args.others.now c.loop-other.other-index (λ less. omega (arith, less, c.loop-other-test.false))) c.loop-other.invariant.passed in
    subst (λ (q : Result (Unit {0}) RefusedCommand). ComesTo (chain_end first others c.args.session.now.shown) (λ d. ChainTries first others c.args.session.now.shown d) q c.args.session.now.shown c.apply.new.session.shown)
    (sym c.chain_answer-2.ensures)
    (from-first first others _ c.loop-other.session.shown c.args.session.now.shown c.apply.new.session.shown c.loop-other.invariant.same
    (chain-lasts first others tried c.apply.result c.loop-other.session c.apply.new.session passed answered))
