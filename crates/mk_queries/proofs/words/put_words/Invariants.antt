-- The words so far were put, and those that are ahead are to come.
use Rattle.mk_lines.specs.Spacing.{each_after_space}
use Rattle.mk_queries.proofs.PutLemmas.{PutSoFar}
use Rattle.mk_queries.proofs.words.put_words.Given as goal

abbrev pub invariant-words : goal.invariant-words
invariant-words g l =
    PutSoFar g.W.ByteSink.contents g.W.ByteSink.failed g.W.ByteSink.flushes l.initial.out l.out l.initial.gathered.items l.gathered.items (each_after_space l.word-iterator) (each_after_space l.fn.words)
