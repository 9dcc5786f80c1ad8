-- The lines ahead are those after the lines that were counted, and the count is the size of these.
use Rattle.std.proofs.Common.{◌≡◌, take, drop}
use Rattle.mk_tree.specs.LocatedLines.{size_of}
use Rattle.mk_tree.proofs.document.Doc.bytes_between.Given as goal

abbrev pub invariant-lines : goal.invariant-lines
invariant-lines g l =
    (drop l.at (drop l.from l.self) ≡ l.lines) × (l.bytes ≡ size_of (take l.at (drop l.from l.self)))
