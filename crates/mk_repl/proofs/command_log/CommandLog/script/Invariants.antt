-- The lines of the edits of the members so far were added.
use Rattle.std.proofs.Common.{[], map, take}
use Rattle.mk_lines.specs.Lists.{concat}
use Rattle.mk_repl.specs.CommandLogs.{AddsLines, edits_of}
use Rattle.mk_repl.proofs.command_log.CommandLog.script.Given as goal

abbrev pub invariant-loop-member : goal.invariant-loop-member
invariant-loop-member l = AddsLines [] (concat (map edits_of (take l.member-index l.self.done.items))) l.script.items
