use Rattle.mk_edit_language.specs.CommandViews.{command_of}
use Rattle.mk_repl.proofs.LogLemmas.{told-keeps}
use Rattle.mk_repl.proofs.command_log.CommandLog.note.Goals as goal

pub returns : goal.returns
returns c =
    told-keeps (command_of c.args.command) c.args.self.now c.done-noted.new.self c.keep.new.self c.done-noted.result c.done-noted.ensures.follows
    c.done-noted.ensures.same c.keep.ensures
