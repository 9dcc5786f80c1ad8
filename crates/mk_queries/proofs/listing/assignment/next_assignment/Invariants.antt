-- What is seen of the walk is what was seen of it at first.
use Rattle.std.proofs.Common.{◌≡◌, ◌≤◌, length, option_map}
use Rattle.mk_tree.specs.Views.{assignment_of}
use Rattle.mk_queries.specs.Listings.{is_of, seen, standing}
use Rattle.mk_queries.proofs.listing.assignment.next_assignment.Given as goal

abbrev pub invariant-lines : goal.invariant-lines
invariant-lines g l =
    (seen assignment_of (is_of (option_map (λ word. word.now) l.name)) (standing l.fn.walk)
    ≡ seen assignment_of (is_of (option_map (λ word. word.now) l.name)) (standing l.walk))
    × (length l.walk.ahead ≤ length l.fn.walk.ahead)

abbrev pub decreases-lines : goal.decreases-lines
decreases-lines g l = length l.walk.ahead
