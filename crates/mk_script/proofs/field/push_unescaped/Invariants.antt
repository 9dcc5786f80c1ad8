-- The bytes so far, and then the bytes of the rest, are those of the field.
use Rattle.std.proofs.Common.{◌≡◌, ◌++◌, false, drop}
use Rattle.mk_script.specs.FieldReading.{unescaped}
use Rattle.mk_script.proofs.field.push_unescaped.Given as goal

abbrev pub invariant-loop-byte : goal.invariant-loop-byte
invariant-loop-byte g l = l.text.items ++ unescaped l.is_escaped (drop l.byte-index l.written) ≡ l.initial.text.items ++ unescaped false l.written
