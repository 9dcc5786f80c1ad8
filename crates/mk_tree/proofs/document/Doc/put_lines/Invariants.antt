-- The lines ahead are those after the lines that were put.
use Rattle.std.proofs.Common.{◌≡◌, take, drop}
use Rattle.std.specs.Prelude.{Ok}
use Rattle.mk_tree.specs.LocatedLines.{located_text}
use Rattle.mk_tree.specs.Printing.{Gathers}
use Rattle.mk_tree.proofs.document.Doc.put_lines.Given as goal

abbrev pub invariant-lines : goal.invariant-lines
invariant-lines g l =
    (drop l.at (drop l.from l.self) ≡ l.lines)
    × Gathers g.W.ByteSink.contents g.W.ByteSink.failed g.W.ByteSink.flushes l.initial.out l.out l.initial.gathered.items l.gathered.items (Ok (tt {0})) (located_text (take l.at (drop l.from l.self)))
