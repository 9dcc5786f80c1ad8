use Rattle.std.proofs.Common.{inl, map}
use Rattle.mk_script.specs.Scripts.{step_of}
use Rattle.mk_repl.proofs.server.Server.execute_text.Goals as goal

pub returns-in-Ok-clause-executed : goal.returns-in-Ok-clause-executed
returns-in-Ok-clause-executed c = inl (map step_of c.in-Ok.steps.items, c.in-Ok.ensures.steps, c.execute_only.ensures.executed)

pub returns-in-Err-clause-executed : goal.returns-in-Err-clause-executed
returns-in-Err-clause-executed c = c.unread.ensures c.args.text.now c.args.self.now.session.shown c.in-Err.ensures.fault
