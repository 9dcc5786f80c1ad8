use Rattle.std.proofs.Common.{subst, sym}
use Rattle.std.specs.Result.{OnOk}
use Rattle.mk_edit_language.specs.CommandViews.{command_of}
use Rattle.mk_repl.specs.CommandLogs.{Follows}
use Rattle.mk_repl.proofs.command_log.CommandLog.done.Goals as goal

pub returns-in-Apply-clause-follows : goal.returns-in-Apply-clause-follows
returns-in-Apply-clause-follows c =
    subst (λ command. OnOk c.edited.result (Follows (command_of command) c.args.self.now c.edited.new.self)) (sym c.in-Apply.is) c.edited.ensures.follows
