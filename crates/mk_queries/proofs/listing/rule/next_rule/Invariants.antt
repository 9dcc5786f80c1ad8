-- What is seen of the walk is what was seen of it at first.
use Rattle.std.proofs.Common.{◌≡◌, ◌≤◌, length, option_map}
use Rattle.mk_tree.specs.Views.{rule_of}
use Rattle.mk_queries.specs.Listings.{is_for, seen, standing}
use Rattle.mk_queries.proofs.listing.rule.next_rule.Given as goal

abbrev pub invariant-lines : goal.invariant-lines
invariant-lines g l =
    (seen rule_of (is_for (option_map (λ word. word.now) l.target)) (standing l.fn.walk)
    ≡ seen rule_of (is_for (option_map (λ word. word.now) l.target)) (standing l.walk))
    × (length l.walk.ahead ≤ length l.fn.walk.ahead)

abbrev pub decreases-lines : goal.decreases-lines
decreases-lines g l = length l.walk.ahead
