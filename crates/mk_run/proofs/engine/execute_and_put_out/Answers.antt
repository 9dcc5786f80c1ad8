use Rattle.std.proofs.Common.{◌∙◌, refl, sym, ap, subst, map}
use Rattle.mk_script.specs.Scripts.{step_of}
use Rattle.mk_run.specs.Outcome.{is_printed, outcome_of}
use Rattle.mk_run.specs.RunEnds.{written}
use Rattle.mk_run.specs.RunSteps.{EndsSteps}
use Rattle.mk_run.specs.declared.outcome.Outcome.{Outcome}
use Rattle.mk_run.proofs.on_runs.RunLemmas.{stopped-ends, stopped-reached, stopped-writes, done-ends, refused-ends, cut-ends, printed-refused}
use Rattle.mk_run.proofs.engine.execute_and_put_out.Goals as goal

pub returns-in-Err-clause-ends : goal.returns-in-Err-clause-ends
returns-in-Err-clause-ends g c =
    stopped-ends c.args.keep_going (map step_of c.args.steps.now) c.args.session.now.shown c.execute_all.new.session.shown _ c.in-Err.early _ _ c.in-Err.ensures.stops

pub returns-in-Err-clause-reached : goal.returns-in-Err-clause-reached
returns-in-Err-clause-reached g c =
    (stopped-reached c.args.keep_going (map step_of c.args.steps.now) c.args.session.now.shown c.execute_all.new.session.shown _ _ c.in-Err.early c.in-Err.ensures.stops).0

pub returns-in-Err-clause-write : goal.returns-in-Err-clause-write
returns-in-Err-clause-write g c =
    stopped-writes c.args.keep_going (map step_of c.args.steps.now) c.args.session.now.shown c.execute_all.new.session.shown _ _ c.in-Err.early _ c.requires.out_works c.in-Err.ensures.stops

pub returns-in-Err-clause-out : goal.returns-in-Err-clause-out
returns-in-Err-clause-out g c =
    let off =
    (stopped-reached c.args.keep_going (map step_of c.args.steps.now) c.args.session.now.shown c.execute_all.new.session.shown (g.P.ByteSink.failed c.execute_all.new.report)
    (written (g.P.ByteSink.contents c.args.report.now) (g.P.ByteSink.contents c.execute_all.new.report)) c.in-Err.early c.in-Err.ensures.stops).1 in
    record { unwritten = λ no works. refl; flushed = rw off refl; settled = λ on. absurd (cc) }

pub returns-in-Ok-put_out-clause-out : goal.returns-in-Ok-put_out-clause-out
returns-in-Ok-put_out-clause-out g c = record { unwritten = λ off. absurd (cc); flushed = c.in-Ok-put_out.ensures.out.flushed; settled = λ on. c.in-Ok-put_out.ensures.out.settled }

pub returns-in-Err-put_out-clause-out : goal.returns-in-Err-put_out-clause-out
returns-in-Err-put_out-clause-out g c =
    let fails = c.in-Err-put_out.ensures.out.fault in
    let off = ap (λ (o : Outcome). is_printed o c.args.keep_going) (c.from.ensures ∙ ap outcome_of fails.0) in
    record { unwritten = λ no works. absurd (let failed = fails.1 in cc); flushed = rw off c.in-Err-put_out.ensures.out.flushed; settled = λ on. absurd (cc) }

pub returns-in-Ok-put_out-clause-ends : goal.returns-in-Ok-put_out-clause-ends
returns-in-Ok-put_out-clause-ends g c =
    done-ends c.args.keep_going (map step_of c.args.steps.now) c.args.session.now.shown c.execute_all.new.session.shown c.in-Ok.refused _ c.in-Ok.ensures.executed
    c.put_out.new.session.shown c.in-Ok-put_out.ensures.ended (g.P.ByteSink.failed c.execute_all.new.report) _ c.if-refused-eq0.true c.in-Ok-put_out.ensures.out.whole

pub returns-in-Ok-2-clause-ends : goal.returns-in-Ok-2-clause-ends
returns-in-Ok-2-clause-ends g c =
    refused-ends c.args.keep_going (map step_of c.args.steps.now) c.args.session.now.shown c.execute_all.new.session.shown c.in-Ok.refused _ c.in-Ok.ensures.executed
    c.put_out.new.session.shown c.in-Ok-2.ensures.ended (g.P.ByteSink.failed c.execute_all.new.report) _ c.if-refused-eq0.false c.in-Ok-2.ensures.out.whole

pub returns-in-Ok-2-clause-out : goal.returns-in-Ok-2-clause-out
returns-in-Ok-2-clause-out g c =
    let on = printed-refused c.args.keep_going c.in-Ok.refused c.in-Ok.ensures.executed.goes_on c.if-refused-eq0.false in
    record { unwritten = λ off. absurd (cc); flushed = rw on c.in-Ok-2.ensures.out.flushed; settled = λ is. c.in-Ok-2.ensures.out.settled }

pub returns-in-Err-put_out-clause-ends : goal.returns-in-Err-put_out-clause-ends
returns-in-Err-put_out-clause-ends g c =
    let fails = c.in-Err-put_out.ensures.out.fault in
    subst (λ (o : Outcome). EndsSteps c.args.keep_going (map step_of c.args.steps.now) c.args.session.now.shown c.put_out.new.session.shown (g.P.ByteSink.failed c.execute_all.new.report)
    (written (g.P.ByteSink.contents c.args.report.now) (g.P.ByteSink.contents c.execute_all.new.report)) (written (g.W.ByteSink.contents c.args.out.now) (g.W.ByteSink.contents c.put_out.new.out)) o)
    (sym (c.from.ensures ∙ ap outcome_of fails.0))
    (cut-ends c.args.keep_going (map step_of c.args.steps.now) c.args.session.now.shown c.execute_all.new.session.shown c.in-Ok.refused _ c.in-Ok.ensures.executed
    c.put_out.new.session.shown c.in-Err-put_out.ensures.ended _ _ c.in-Ok.ensures.works c.in-Err-put_out.ensures.out.prefix)
