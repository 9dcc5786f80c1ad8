-- The words passed are listed, but for those that are there: if those ahead are too, all words of the
-- text are.
use Rattle.std.proofs.Common.{map, length}
use Rattle.mk_lines.specs.Words.{words_in}
use Rattle.mk_index.specs.Chains.{hash_of}
use Rattle.mk_index.proofs.on_chains.ButLemmas.{IsLeftBut}
use Rattle.mk_index.proofs.keys.list_words_but.Given as goal

abbrev pub invariant-words : goal.invariant-words
invariant-words g l = IsLeftBut (map hash_of (words_in l.listed)) (map hash_of (words_in l.text)) (map hash_of (words_in l.there)) (map hash_of (words_in l.ahead)) l.block l.fn.chains l.chains

abbrev pub decreases-words : goal.decreases-words
decreases-words g l = length l.ahead
