use Rattle.std.proofs.Common.{refl, map, rules, subst}
use Rattle.mk_script.specs.Scripts.{step_of}
use Rattle.mk_run.specs.RunSteps.{StopsMakefile}
use Rattle.mk_run.specs.declared.outcome.Outcome.{Outcome}
use Rattle.mk_run.specs.declared.outcome.Outcome.TheVariants.{BadDepth, NotACommand, Read}
use Rattle.mk_run.proofs.on_runs.RunLemmas.{makefile-stops, makefile-unopened, steps-over, reached-other}
use Rattle.mk_run.proofs.on_runs.EventLemmas.{told-run, untold-makefile}
use Rattle.mk_run.proofs.engine.run_steps.Goals as goal

pub returns-in-Err-clause-over : goal.returns-in-Err-clause-over
returns-in-Err-clause-over g c = λ script says.
    makefile-stops _ script c.args.depth c.args.keep_going _ _ _ _ (map step_of c.args.steps.now) _ c.in-Err.outcome c.requires.depth says c.in-Err.ensures.stops

pub returns-in-Err-clause-faults : goal.returns-in-Err-clause-faults
returns-in-Err-clause-faults g c =
    let stops-as = λ (o : Outcome). StopsMakefile (g.R.ByteSource.remaining c.args.makefile.now) (g.R.ByteSource.failed c.open_makefile.new.makefile) o in
    record {
      bad_depth = (λ is. absurd (subst stops-as is c.in-Err.ensures.stops), λ bad. absurd (c.requires.depth bad));
      read = (makefile-unopened (g.R.ByteSource.remaining c.args.makefile.now) (g.R.ByteSource.failed c.open_makefile.new.makefile) c.in-Err.outcome c.args.keep_going c.in-Err.ensures.stops).0;
      write = (λ is. absurd (subst stops-as is c.in-Err.ensures.stops), λ fails. absurd (let no = rw (c.requires.out_works, c.requires.report_works) at fails in cc));
    }

pub returns-in-Err-clause-out : goal.returns-in-Err-clause-out
returns-in-Err-clause-out g c =
    let off = (makefile-unopened (g.R.ByteSource.remaining c.args.makefile.now) (g.R.ByteSource.failed c.open_makefile.new.makefile) c.in-Err.outcome c.args.keep_going c.in-Err.ensures.stops).1 in
    record { unwritten = search rules; flushed = rw off refl; settled = λ on. absurd (cc) }

pub returns-clause-over : goal.returns-clause-over
returns-clause-over g c = λ script says.
    steps-over _ script c.args.depth c.args.keep_going (map step_of c.args.steps.now) c.in-Ok.session c.requires.depth says c.in-Ok.ensures.opened
    _ _ _ c.execute_and_put_out.new.session _ c.execute_and_put_out.result (rw c.insert-session.ensures.value at c.execute_and_put_out.ensures.ends)

pub returns-clause-begun : goal.returns-clause-begun
returns-clause-begun g c = λ line. reached-other c.execute_and_put_out.result (NotACommand line) c.execute_and_put_out.ensures.reached refl

pub returns-clause-faults : goal.returns-clause-faults
returns-clause-faults g c =
    let reached = c.execute_and_put_out.ensures.reached in
    record {
      bad_depth = (λ is. absurd (reached-other _ BadDepth reached refl is), λ bad. absurd (c.requires.depth bad));
      read = (λ is. absurd (reached-other _ Read reached refl is), λ fails. absurd (let works = c.in-Ok.ensures.works in cc));
      write = search rules;
    }

pub returns-in-Err-clause-told : goal.returns-in-Err-clause-told
returns-in-Err-clause-told g c = λ script says. untold-makefile (g.R.ByteSource.remaining c.args.makefile.now) _ script (g.R.ByteSource.failed c.open_makefile.new.makefile) c.args.depth c.args.keep_going _ _ c.in-Err.outcome c.in-Err.ensures.stops

pub returns-clause-told : goal.returns-clause-told
returns-clause-told g c = λ script says.
    told-run _ script c.args.depth c.args.keep_going (map step_of c.args.steps.now) c.in-Ok.session says c.in-Ok.ensures.opened _ _ c.execute_and_put_out.result
    (rw c.insert-session.ensures.value at c.execute_and_put_out.ensures.told)
