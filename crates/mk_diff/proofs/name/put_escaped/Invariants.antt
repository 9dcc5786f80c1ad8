-- The text so far, and that of the bytes still to come, are the whole.
use Rattle.std.proofs.Common.{◌≡◌, ◌++◌, drop}
use Rattle.mk_diff.specs.NameTexts.{escaped}
use Rattle.mk_diff.proofs.name.put_escaped.Given as goal

abbrev pub invariant-loop-byte : goal.invariant-loop-byte
invariant-loop-byte g l = l.text.items ++ escaped (drop l.byte-index l.name) ≡ l.initial.text.items ++ escaped l.name
