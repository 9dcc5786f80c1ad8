-- The lines of the edits so far were added.
use Rattle.std.proofs.Common.{map, take}
use Rattle.mk_edit_language.specs.EditViews.{edit_of}
use Rattle.mk_repl.specs.CommandLogs.{AddsLines}
use Rattle.mk_repl.proofs.command_log.push_edits.Given as goal

abbrev pub invariant-loop-edit : goal.invariant-loop-edit
invariant-loop-edit l = AddsLines l.fn.script.items (map edit_of (take l.edit-index l.fn.edits)) l.script.items
