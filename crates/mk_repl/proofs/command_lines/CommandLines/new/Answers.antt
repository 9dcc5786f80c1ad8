-- The line is all that has come.
use Rattle.std.proofs.Common.{[]}
use Rattle.mk_repl.proofs.command_lines.CommandLines.new.Goals as goal

pub returns-clause-read : goal.returns-clause-read
returns-clause-read g c = c.put.ensures.read [] c.requires.blocks (tt, c.new.ensures.items)
