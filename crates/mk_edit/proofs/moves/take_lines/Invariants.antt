-- The steps that were added so far are all the same.
use Rattle.std.proofs.Common.{◌≡◌, ◌++◌, replicate}
use Rattle.mk_patch.specs.Moves.{TakeOut}
use Rattle.mk_edit.proofs.moves.take_lines.Given as goal

abbrev pub invariant-lines : goal.invariant-lines
invariant-lines g l = record {
  moves : l.patch.moves ≡ l.initial.patch.moves ++ replicate l.taken (TakeOut l.at);
  room : l.patch.room ≡ l.initial.patch.room;
}
