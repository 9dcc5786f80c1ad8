-- The offsets of an assignment, if there is one.
use Rattle.std.specs.Prelude.{ℕ, Option, Some, None}
use Rattle.mk_class.specs.Assignments.{Assignment}
use Rattle.mk_class.specs.LocatedClasses.{located_assignment}
use Rattle.mk_class.specs.declared.assignment.Assignment as assignment

-- the offsets of an assignment whose text begins at this offset, if there is one
abbrev pub located : {A : Type 0} → (at : ℕ) → Option (Assignment A) → Option assignment.Assignment
located at None = None
located at (Some a) = Some (located_assignment at a)
