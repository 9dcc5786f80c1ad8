-- A walk down from the header of a rule for the end of its run, on lines as a document shows them.
-- Told in docs/ARCHITECTURE.md, "An edit's way, from Edit to moved lines".
use Rattle.std.specs.Prelude.{ℕ, zero, ◌+◌, ◌-◌, ◌&&◌, ◌||◌, if◌then◌else◌, nat_lt, not, Bool, true, false, List, [], ◌∷◌, Option, Some, None}
use Rattle.mk_class.specs.Contexts.{conditionals_after_located}
use Rattle.mk_class.specs.declared.class.Class.{Class}
use Rattle.mk_class.specs.declared.class.Class.TheVariants.{Else, Endif}
use Rattle.mk_tree.specs.LocatedLines.{LocatedLine}
use Rattle.mk_edit_parts.specs.EachLineWalks.{stays_located}

-- whether a line of this class belongs to a conditional that begins above it
abbrev pub ends_branch_located : Class → Bool
ends_branch_located Else = true
ends_branch_located Endif = true
ends_branch_located k = false

-- whether a line of this class may stand in the run of a rule, if so many conditionals that begin in
-- the run are open before it
abbrev pub stands_located : (begun : ℕ) → Class → Bool
stands_located n k = stays_located k && (nat_lt 0 n || not (ends_branch_located k))

-- how many lines the run has below the header, where so many were passed: at least as many more as the
-- number of lines up to the last recipe line, and then up to the first after which no conditional is open
abbrev pub run_from : (begun recipe passed : ℕ) → List LocatedLine → Option ℕ
run_from zero zero p ls = Some p
run_from n r p [] = None
run_from n r p (l ∷ ls) =
    if stands_located n l.class
    then run_from (conditionals_after_located n l.class) (r - 1) (p + 1) ls
    else None
