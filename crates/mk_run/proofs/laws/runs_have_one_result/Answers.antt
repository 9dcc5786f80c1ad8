use Rattle.mk_run.proofs.on_runs.ResultLemmas.{has-run, one-run}
use Rattle.mk_run.proofs.laws.runs_have_one_result.Goals as goal

pub returns-clause-some : goal.returns-clause-some
returns-clause-some c = λ makefile script depth k. has-run makefile script depth k

pub returns-clause-one : goal.returns-clause-one
returns-clause-one c = λ makefile script depth k r q. one-run makefile script depth k r q
