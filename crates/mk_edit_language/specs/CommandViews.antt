-- What contracts see of a program's commands: the calls of the session machine.
-- Told in docs/ARCHITECTURE.md, "How a session stands on mk_history".
use Rattle.mk_edit_language.specs.Edits.{Edit}
use Rattle.mk_edit_language.specs.EditViews.{edit_of}
use Rattle.mk_history.specs.Machine as machine
use Rattle.mk_edit_language.specs.declared.command.Command.{Command}
use Rattle.mk_edit_language.specs.declared.command.Command.TheVariants as command

abbrev pub command_of : {A : _} → Command A → machine.Command Edit
command_of (command.Apply e) = machine.Apply (edit_of e)
command_of command.Undo = machine.Undo
command_of command.Redo = machine.Redo
command_of command.Begin = machine.Begin
command_of command.End = machine.End
command_of command.Cancel = machine.Cancel
