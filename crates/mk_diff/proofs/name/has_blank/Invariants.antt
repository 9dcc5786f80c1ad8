use Rattle.std.proofs.Common.{◌≡◌, drop}
use Rattle.mk_diff.specs.NameTexts.{has_blank}
use Rattle.mk_diff.proofs.name.has_blank.Given as goal

abbrev pub invariant-loop-byte : goal.invariant-loop-byte
invariant-loop-byte l = has_blank (drop l.byte-index l.name) ≡ has_blank l.name
