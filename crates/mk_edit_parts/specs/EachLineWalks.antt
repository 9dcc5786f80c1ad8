-- A walk down a document for the lines that an edit of several lines means, as a document shows them.
-- Told in docs/ARCHITECTURE.md, "An edit's way, from Edit to moved lines".
use Rattle.std.specs.Prelude.{◌||◌, ◌&&◌, ◌==◌, not, nat_lt, if◌then◌else◌, ℕ, ◌+◌, Bool, true, false, List, [], ◌∷◌, Option, Some, None}
use Rattle.mk_lines.specs.Ranges.{text_at}
use Rattle.mk_class.specs.LocatedClasses.{leaves_flag_located}
use Rattle.mk_class.specs.RecipePrefix.{is_prefix_name}
use Rattle.mk_class.specs.declared.class.Class as class
use Rattle.mk_class.specs.declared.class.Class.TheVariants as variants
use Rattle.mk_tree.specs.LocatedLines.{LocatedLine, located_line, text_of_line}
use Rattle.mk_edit_language.specs.Addresses.{Address, each_address, nth_meant}
use Rattle.mk_edit_language.specs.EachLine as each
use Rattle.mk_edit_language.specs.Edits.{EachEdit, ChangeEach, SubstValues, SubstRecipe, SubstRecipes}
use Rattle.mk_edit_parts.specs.LineChangePlaces.{rewrite_view}
use Rattle.mk_edit_parts.specs.LocatedParts.{assigns_located}
use Rattle.mk_edit_parts.specs.RecipeWalks.{is_recipe_located}
use Rattle.mk_edit_parts.specs.Seeking.{may_mean}
use Rattle.mk_edit_parts.specs.declared.each_line.EachChange.{EachChange}
use Rattle.mk_edit_parts.specs.declared.each_line.EachChange.TheVariants as change
use Rattle.mk_edit_parts.specs.declared.each_line.Reach.{Reach}

-- what is done to a line; its texts are seen as bytes
abbrev pub each_change_view : EachChange → each.EachChange
each_change_view (change.InAssignment rewrite) = each.InAssignment (rewrite_view rewrite)
each_change_view (change.InRecipe from to) = each.InRecipe from.now to.now

-- ---- one line

-- whether a line of this joined text and class assigns a variable, and not `.RECIPEPREFIX`
abbrev pub assigns_other_in : (text : List ℕ) → class.Class → Bool
assigns_other_in t (variants.Assign a p) = not (is_prefix_name (text_at t a.name))
assigns_other_in t k = false

abbrev pub assigns_other_located : LocatedLine → Bool
assigns_other_located l = assigns_other_in (text_of_line l) l.class

-- whether an edit means a line that a walk has come to
abbrev pub is_meant_located : EachEdit → Reach → LocatedLine → Bool
is_meant_located (ChangeEach n c) r l = assigns_located n l
is_meant_located (SubstValues f t) r l = assigns_other_located l
is_meant_located (SubstRecipe nth g f t) r l = r.is_in_rule && is_recipe_located l.class
is_meant_located (SubstRecipes f t) r l = is_recipe_located l.class

-- whether an address means the line of this number, from 1; each if it has no number
abbrev pub is_nth : Option ℕ → (number : ℕ) → Bool
is_nth None k = true
is_nth (Some n) k = k == n

abbrev pub is_number : Option Address → (number : ℕ) → Bool
is_number None k = true
is_number (Some a) k = is_nth (nth_meant a) k

-- whether a line of this class may stand among the recipe lines of a rule
abbrev pub stays_located : class.Class → Bool
stays_located k = is_recipe_located k || leaves_flag_located k

-- ---- a walk

-- what a walk knows before the first line
abbrev pub no_reach : Reach
no_reach = record { count = 0; is_in_rule = false }

-- what it knows after one more line, by whether the address may mean the line, and whether the line may
-- stand among the recipe lines of a rule
abbrev pub reach_by : Option Address → (is_candidate stays : Bool) → Reach → Reach
reach_by a b s r =
    if b
    then record { count = r.count + 1; is_in_rule = is_number a (r.count + 1) }
    else record { count = r.count; is_in_rule = r.is_in_rule && s }

abbrev pub reach_after : EachEdit → LocatedLine → Reach → Reach
reach_after e l r =
    reach_by (each_address e) (may_mean (each_address e) l) (stays_located l.class) r

-- a line, and whether an edit means it
pub record SeenLine : Type 0 where
  pub line : LocatedLine
  pub is_meant : Bool

-- the lines that a walk sees from a line on, and what it knows after them
abbrev pub seen_from : EachEdit → Reach → List LocatedLine → List SeenLine
seen_from e r [] = []
seen_from e r (l ∷ ls) =
    record { line = l; is_meant = is_meant_located e r l } ∷ seen_from e (reach_after e l r) ls

abbrev pub reach_along : EachEdit → Reach → List LocatedLine → Reach
reach_along e r [] = r
reach_along e r (l ∷ ls) = reach_along e (reach_after e l r) ls

-- the lines of a document, and what a walk knows after them
abbrev pub seen_lines : EachEdit → List LocatedLine → List SeenLine
seen_lines e ls = seen_from e no_reach ls

abbrev pub reach_of : EachEdit → List LocatedLine → Reach
reach_of e ls = reach_along e no_reach ls

-- a line of the definitions that an edit means or does not, as a document shows it
abbrev pub located_marked : each.MarkedLine → SeenLine
located_marked m = record { line = located_line m.line; is_meant = m.is_meant }

-- ---- NoSuch

-- whether the line of a number is missing among so many lines, or each if no number is given
abbrev pub is_nth_missing : Option ℕ → (count : ℕ) → Bool
is_nth_missing None k = k == 0
is_nth_missing (Some n) k = (n == 0) || nat_lt k n

abbrev pub is_missing_among : Option Address → (count : ℕ) → Bool
is_missing_among None k = false
is_missing_among (Some a) k = is_nth_missing (nth_meant a) k
