-- The number of an assignment or of a rule, by the index of its line.
-- Told in docs/LIBRARY.md, "Walking over a makefile".
use Rattle.std.specs.Prelude.{ℕ, ◌+◌, if◌then◌else◌, Bool, false, List, count_by, take, slice_get, Option, Some, None, option_and_then, option_map}
use Rattle.mk_tree.specs.LocatedLines.{LocatedLine}
use Rattle.mk_tree.specs.Views.{assignment_of, rule_of}
use Rattle.mk_queries.specs.Listings.{is_for, is_of}

-- whether something is seen that passes a test
abbrev pub shows : {V : Type 0} → (V → Bool) → Option V → Bool
shows passes None = false
shows passes (Some v) = passes v

-- whether a line assigns the variable of a name
abbrev pub line_assigns : (name : List ℕ) → LocatedLine → Bool
line_assigns n l = shows (is_of (Some n)) (assignment_of l)

-- whether a line is a rule for a target
abbrev pub line_is_rule_for : (target : List ℕ) → LocatedLine → Bool
line_is_rule_for t l = shows (is_for (Some t)) (rule_of l)

-- how many lines pass a test, down to the one with this index
abbrev pub count_down_to : (index : ℕ) → (LocatedLine → Bool) → List LocatedLine → ℕ
count_down_to i test ls = count_by test (take (i + 1) ls)

-- the number of the assignment on the line with this index among those of its variable
abbrev pub assignment_number : List LocatedLine → (index : ℕ) → Option ℕ
assignment_number ls i =
    option_map (λ a. count_down_to i (line_assigns a.name) ls) (option_and_then assignment_of (slice_get ls i))

-- the number of the rule on the line with this index among those for a target, if it is for the target
abbrev pub rule_number : List LocatedLine → (index : ℕ) → (target : List ℕ) → Option ℕ
rule_number ls i t =
    if shows (is_for (Some t)) (option_and_then rule_of (slice_get ls i))
    then Some (count_down_to i (line_is_rule_for t) ls)
    else None
