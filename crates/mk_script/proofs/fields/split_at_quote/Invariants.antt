-- The bytes so far stand before the bytes of the rest.
use Rattle.std.proofs.Common.{◌≡◌, false, take, drop}
use Rattle.mk_script.specs.FieldReading.{until_quote}
use Rattle.mk_script.proofs.on_fields.EscapeLemmas.{with_front}
use Rattle.mk_script.proofs.fields.split_at_quote.Given as goal

abbrev pub invariant-loop-at : goal.invariant-loop-at
invariant-loop-at l = until_quote false l.text ≡ with_front (take l.at l.text) (until_quote l.is_escaped (drop l.at l.text))
