-- Walks down from the header of a rule, on lines as a document shows them.
-- Told in docs/ARCHITECTURE.md, "An edit's way, from Edit to moved lines".
use Rattle.std.specs.Prelude.{ℕ, zero, suc, Bool, true, false, List, [], ◌∷◌, ◌++◌, map, length, drop, take, is_some}
use Rattle.mk_class.specs.declared.class.Class.{Class}
use Rattle.mk_class.specs.declared.class.Class.TheVariants.{Recipe, Header}
use Rattle.mk_class.specs.Classes as classes
use Rattle.mk_class.specs.ClassedLines.{ClassedLine, classed_lines}
use Rattle.mk_tree.specs.LocatedLines.{LocatedLine, located_text, text_of_line}
use Rattle.mk_tree.specs.RecipeLines.{recipe_lines, recipe_run}
use Rattle.mk_tree.specs.LineTexts.{StandingLine}
use Rattle.mk_edit_language.specs.Spots.{spots, nth_of}
use Rattle.mk_edit_parts.specs.LocatedParts.{words_before}

-- the lines of a document's text from an index on
abbrev pub lines_from : List LocatedLine → (at : ℕ) → List ClassedLine
lines_from ls at = drop at (classed_lines (located_text ls))

-- the recipe lines of a header among the lines after it
abbrev pub recipe_spots_in : List ClassedLine → List StandingLine
recipe_spots_in after =
    take (length (recipe_lines after)) (spots (λ l. classes.is_recipe l.class) after)

-- where a new recipe line can go, in lines from the one after the header: before each recipe line of
-- the header, and after the last
abbrev pub gaps_in : List ClassedLine → List ℕ
gaps_in after = map (λ s. length s.above) (recipe_spots_in after) ++ length (recipe_run after) ∷ []

-- whether a recipe line of this number would be the first, or would follow one of these
abbrev pub follows_recipe : (number : ℕ) → List StandingLine → Bool
follows_recipe zero ss = false
follows_recipe (suc zero) ss = true
follows_recipe (suc (suc n)) ss = is_some (nth_of (suc n) ss)

-- whether a line of this class is a recipe line
abbrev pub is_recipe_located : Class → Bool
is_recipe_located Recipe = true
is_recipe_located k = false

-- ---- the targets of a header

-- the targets of a header, in a line of this joined text and class; none in a line that is no
-- header
abbrev pub header_targets_in : (text : List ℕ) → Class → List (List ℕ)
header_targets_in t (Header h) = words_before h.targets_end t
header_targets_in t k = []

abbrev pub header_targets_located : LocatedLine → List (List ℕ)
header_targets_located l = header_targets_in (text_of_line l) l.class
