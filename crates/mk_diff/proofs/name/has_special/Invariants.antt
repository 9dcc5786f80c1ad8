use Rattle.std.proofs.Common.{◌≡◌, drop}
use Rattle.mk_diff.specs.NameTexts.{has_special}
use Rattle.mk_diff.proofs.name.has_special.Given as goal

abbrev pub invariant-loop-byte : goal.invariant-loop-byte
invariant-loop-byte l = has_special (drop l.byte-index l.name) ≡ has_special l.name
