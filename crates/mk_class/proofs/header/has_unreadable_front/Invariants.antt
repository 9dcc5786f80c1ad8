-- The text has such a unit if the rest of it has one.
use Rattle.std.proofs.Common.{◌≡◌, ◌||◌, length}
use Rattle.std.specs.List.{list_any}
use Rattle.mk_lines.specs.Units.{units}
use Rattle.mk_class.specs.Symbols.{is_equals, is_escape, is_dollar_before_blank}
use Rattle.mk_class.specs.TextClasses.{itself}
use Rattle.mk_class.proofs.header.has_unreadable_front.Given as goal

abbrev pub invariant-loop-rest : goal.invariant-loop-rest
invariant-loop-rest l =
    list_any (λ u. is_equals itself u || (is_escape itself u || is_dollar_before_blank itself u)) (units itself l.rest)
    ≡ list_any (λ u. is_equals itself u || (is_escape itself u || is_dollar_before_blank itself u)) (units itself l.text)

abbrev pub decreases-loop-rest : goal.decreases-loop-rest
decreases-loop-rest l = length l.rest
