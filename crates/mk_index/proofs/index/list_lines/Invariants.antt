-- The keys of the lines passed are listed.
use Rattle.std.proofs.Common.{drop}
use Rattle.mk_index.proofs.on_blocks.ListedLemmas.{Listing}
use Rattle.mk_index.proofs.index.list_lines.Given as goal

abbrev pub invariant-lines : goal.invariant-lines
invariant-lines g l =
    (goal.iterator-lines g).can_next l.lines × (goal.iterator-lines g).is_finite l.lines
    × Listing l.scope l.fn.chains l.chains l.number l.block.front l.listed_from l.block.count l.fn.place.context (drop l.fn.place.at l.doc) l.passed l.context l.lines
