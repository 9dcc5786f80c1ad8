use Rattle.std.proofs.Common.{subst, map, inl}
use Rattle.mk_script.specs.Scripts.{step_of}
use Rattle.mk_repl.specs.Replies.{AreExecuted}
use Rattle.mk_repl.proofs.answer.execute_line.Goals as goal

pub returns-in-Ok : goal.returns-in-Ok
returns-in-Ok g c =
    inl (
      map step_of c.in-Ok.steps.items,
      c.in-Ok.ensures.steps,
      subst (λ items. AreExecuted (map step_of items) c.args.session.now.shown c.execute_only.new.session.shown c.execute_only.result)
          c.as_slice.ensures.value c.execute_only.ensures,
    )

pub returns-in-Err : goal.returns-in-Err
returns-in-Err g c = c.unread.ensures c.args.line.now c.args.session.now.shown c.in-Err.ensures.fault
