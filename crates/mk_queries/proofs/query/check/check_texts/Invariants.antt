-- Some text was put.
use Rattle.std.proofs.Common.{List, ℕ}
use Rattle.std.specs.Prelude.{Ok}
use Rattle.mk_tree.specs.Printing.{Gathers}
use Rattle.mk_queries.proofs.query.check.check_texts.Given as goal

abbrev pub invariant-lines : goal.invariant-lines
invariant-lines g l = (text : List ℕ) × Gathers g.W.ByteSink.contents g.W.ByteSink.failed g.W.ByteSink.flushes l.initial.out l.out l.initial.gathered.items l.gathered.items (Ok (tt {0})) text
