-- The lines from here on, which are ahead, say it.
use Rattle.std.proofs.Common.{◌≡◌, drop}
use Rattle.mk_edit_parts.specs.LineRanges.{is_led_first_located}
use Rattle.mk_edit_parts.proofs.lean.is_led_first.Given as goal

abbrev pub invariant-lines : goal.invariant-lines
invariant-lines g l = (drop l.at l.doc ≡ l.lines) × (is_led_first_located l.prefix (drop l.at l.doc) ≡ is_led_first_located l.prefix (drop l.from l.doc))
