use Rattle.std.proofs.Common.{sym, map, subst, arith}
use Rattle.mk_script.specs.Scripts.{numbered_edit, step_of, chain_of}
use Rattle.mk_run.specs.RunSteps.{IsExecuted}
use Rattle.mk_run.proofs.on_runs.StepLemmas.{chain-executed, some-mapped}
use Rattle.mk_run.proofs.step.execute_step.Goals as goal

pub returns-in-Try-clause-executed : goal.returns-in-Try-clause-executed
returns-in-Try-clause-executed g c =
    subst (λ step. IsExecuted (step_of step) c.execute_try.result c.args.session.now.shown c.execute_try.new.session.shown) (sym c.in-Try.is) c.execute_try.ensures.executed

pub returns-in-Chain-clause-executed : goal.returns-in-Chain-clause-executed
returns-in-Chain-clause-executed g c =
    let first = numbered_edit c.in-Chain.chain.first in
    let others = c.deref.result.now in
    let r = c.execute_chain.result in
    let s = c.args.session.now.shown in
    let t = c.execute_chain.new.session.shown in
    let executed = chain-executed first (map numbered_edit others) r s t (some-mapped numbered_edit others (omega (arith, c.in-Chain.chain.some, c.deref.ensures.len))) c.execute_chain.ensures.executed in
    let of_chain = subst (λ xs. IsExecuted (chain_of first (map numbered_edit xs)) r s t) c.deref.ensures.value executed in
    subst (λ step. IsExecuted (step_of step) r s t) (sym c.in-Chain.is) of_chain
