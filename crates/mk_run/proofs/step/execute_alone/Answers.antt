use Rattle.mk_script.specs.Scripts.{numbered}
use Rattle.mk_run.proofs.on_runs.StepLemmas.{alone-err}
use Rattle.mk_run.proofs.step.execute_alone.Goals as goal

pub returns-in-Err-clause-executed : goal.returns-in-Err-clause-executed
returns-in-Err-clause-executed g c = alone-err (numbered c.args.command.now) c.in-Err.refusal c.args.session.now c.execute.new.self c.in-Err.ensures.answered
