use Rattle.std.proofs.Common.{length}
use Rattle.mk_queries.proofs.make_word.make_word.Given as goal

abbrev pub decreases-loop-words : goal.decreases-loop-words
decreases-loop-words l = length l.words
