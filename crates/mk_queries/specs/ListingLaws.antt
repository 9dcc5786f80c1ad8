-- The numbers of what is listed are those that edits take.
-- Told in docs/LIBRARY.md, "Walking over a makefile".
use Rattle.std.specs.Prelude.{◌≡◌, ℕ, true, List, length, slice_get, Some, option_and_then}
use Rattle.mk_class.specs.ClassedLines.{classed_lines}
use Rattle.mk_tree.specs.Documents.{document_lines}
use Rattle.mk_tree.specs.LineTexts.{StandingLine}
use Rattle.mk_tree.specs.Views.{AssignmentView, assignment_of, rule_of}
use Rattle.mk_edit_language.specs.Edits.{ByNumber}
use Rattle.mk_edit_language.specs.Addresses.{Variable, Rule, found}
use Rattle.mk_edit_language.specs.Spots.{nth_of}
use Rattle.mk_edit_language.specs.Stretches.{recipe_found}
use Rattle.mk_queries.specs.declared.listing.assignment.AssignmentLine.{AssignmentLine}
use Rattle.mk_queries.specs.Listings.{RecipeSpot, RuleSpot, assignments_ahead, is_for, recipes_ahead, rules_ahead, whole}
use Rattle.mk_queries.specs.Numbers.{assignment_number, rule_number, shows}

-- The k-th of the assignments of a name that are listed has the number k, and an edit with this number
-- and this name means its line.
abbrev pub AssignmentsHaveTheirNumbers : Type 0
AssignmentsHaveTheirNumbers = (text name : List ℕ) (k : ℕ) (listed : AssignmentLine)
    → nth_of k (assignments_ahead (Some name) 1 (whole (document_lines text))) ≡ Some listed
    → (listed.nth ≡ k)
    × ((line : StandingLine)
    × ((found (classed_lines text) (Variable (Some k) name) ≡ Some line)
    × (length line.above ≡ listed.position.index)))

-- The k-th of the rules for a target that are listed has the number k, and an edit with this number and
-- this target means its line.
abbrev pub RulesHaveTheirNumbers : Type 0
RulesHaveTheirNumbers = (text target : List ℕ) (k : ℕ) (listed : RuleSpot)
    → nth_of k (rules_ahead (Some target) 1 (whole (document_lines text))) ≡ Some listed
    → (listed.nth ≡ k)
    × ((line : StandingLine)
    × ((found (classed_lines text) (Rule (Some k) target) ≡ Some line)
    × (length line.above ≡ listed.position.index)))

-- The k-th of the recipe lines that are listed of the n-th rule for a target has the number k, and an
-- edit of a recipe line with these numbers and this target means its line.
abbrev pub RecipeLinesHaveTheirNumbers : Type 0
RecipeLinesHaveTheirNumbers = (text target : List ℕ) (n k : ℕ) (rule : RuleSpot) (listed : RecipeSpot)
    → nth_of n (rules_ahead (Some target) 1 (whole (document_lines text))) ≡ Some rule
    → nth_of k (recipes_ahead 1 rule.below) ≡ Some listed
    → (listed.number ≡ k)
    × ((line : StandingLine)
    × ((recipe_found (classed_lines text) (Some n) target (ByNumber k) ≡ Some line)
    × (length line.above ≡ listed.position.index)))

-- An assignment on the line with an index has a number, and an edit with this number and its name means
-- its line.
abbrev pub AssignmentsAreNumbered : Type 0
AssignmentsAreNumbered = (text : List ℕ) (i : ℕ) (a : AssignmentView)
    → option_and_then assignment_of (slice_get (document_lines text) i) ≡ Some a
    → (k : ℕ) × ((assignment_number (document_lines text) i ≡ Some k)
    × ((line : StandingLine)
    × ((found (classed_lines text) (Variable (Some k) a.name) ≡ Some line)
    × (length line.above ≡ i))))

-- A rule for a target on the line with an index has a number, and an edit with this number and this
-- target means its line.
abbrev pub RulesAreNumbered : Type 0
RulesAreNumbered = (text target : List ℕ) (i : ℕ)
    → shows (is_for (Some target)) (option_and_then rule_of (slice_get (document_lines text) i)) ≡ true
    → (k : ℕ) × ((rule_number (document_lines text) i target ≡ Some k)
    × ((line : StandingLine)
    × ((found (classed_lines text) (Rule (Some k) target) ≡ Some line)
    × (length line.above ≡ i))))
