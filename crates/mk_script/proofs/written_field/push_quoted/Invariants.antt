-- The bytes so far, and then the escaped bytes of the rest, are those between the quotes.
use Rattle.std.proofs.Common.{◌≡◌, ◌++◌, ◌∷◌, drop}
use Rattle.mk_script.specs.Fields.{escaped}
use Rattle.mk_script.proofs.written_field.push_quoted.Given as goal

abbrev pub invariant-loop-byte : goal.invariant-loop-byte
invariant-loop-byte g l = l.line.items ++ escaped (drop l.byte-index l.field) ≡ l.fn.line.items ++ 34 ∷ escaped l.field
