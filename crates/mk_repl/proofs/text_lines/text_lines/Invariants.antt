-- What is left of the answer becomes shorter.
use Rattle.std.proofs.Common.{length}
use Rattle.mk_repl.proofs.text_lines.text_lines.Given as goal

abbrev pub decreases-lines : goal.decreases-lines
decreases-lines g l = length l.rest
