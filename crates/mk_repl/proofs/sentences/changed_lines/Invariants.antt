-- What is left of the diff becomes shorter.
use Rattle.std.proofs.Common.{length}
use Rattle.mk_repl.proofs.sentences.changed_lines.Given as goal

abbrev pub decreases-lines : goal.decreases-lines
decreases-lines l = length l.rest
