-- The edits that take out a rule, or put in, change or take out a recipe line; which recipe line
-- they mean, where a new one goes, and where a recipe line has its command.
-- Told in docs/EDITS.md, "Rules" and "Recipes".
use Rattle.std.specs.Prelude.{◌≡◌, ℕ, ◌+◌, List, [], ◌∷◌, filter, length, Option, Some, None, option_map, Result, Ok, Err}
use Rattle.mk_lines.specs.PhysicalLines.{without_line_end}
use Rattle.mk_lines.specs.declared.split.Span.{Span}
use Rattle.mk_class.specs.ClassedLines.{ClassedLine}
use Rattle.mk_tree.specs.LineTexts.{StandingLine}
use Rattle.mk_tree.specs.RecipeLines.{recipe_run}
use Rattle.mk_edit_language.specs.Edits.{RecipeLine, ByNumber, ByText, RecipePlace, Last, At, OfRule, OfRecipe, Edit, AddRecipe, SetRecipe, RemoveLines}
use Rattle.mk_edit_language.specs.Spots.{nth_of}
use Rattle.mk_edit_language.specs.Stretches.{has_text}
use Rattle.mk_edit_language.specs.declared.refusal.Refusal.{Refusal}
use Rattle.mk_edit_language.specs.declared.refusal.Refusal.TheVariants.{Ambiguous, Absent}
use Rattle.mk_edit_parts.specs.RecipeWalks.{gaps_in}

-- the removal of a rule
abbrev pub IsRemoveRule : Edit → Type 0
IsRemoveRule (RemoveLines (OfRule nth t)) = Unit {0}
IsRemoveRule e = ⊥

-- another command for a recipe line
abbrev pub IsSetRecipe : (command : List ℕ) → Edit → Type 0
IsSetRecipe c (SetRecipe nth t w d) = d ≡ c
IsSetRecipe c e = ⊥

-- the removal of a recipe line
abbrev pub IsRemoveRecipe : Edit → Type 0
IsRemoveRecipe (RemoveLines (OfRecipe nth t w)) = Unit {0}
IsRemoveRecipe e = ⊥

-- ---- the recipe line that is meant

-- an index, if there is one
abbrev pub index_or_absent : Option ℕ → Result ℕ Refusal
index_or_absent None = Err Absent
index_or_absent (Some at) = Ok at

-- the index of the only one of some lines, or why there is none; the lines stand below this index
abbrev pub only_index : (from : ℕ) → List StandingLine → Result ℕ Refusal
only_index from [] = Err Absent
only_index from (s ∷ []) = Ok (from + length s.above)
only_index from (s ∷ r ∷ ss) = Err (Ambiguous (length (s ∷ r ∷ ss)))

-- the index of the recipe line that is meant, among those of its rule, which stand below this index
abbrev pub line_index : RecipeLine → (from : ℕ) → List StandingLine → Result ℕ Refusal
line_index (ByNumber k) from ss =
    index_or_absent (option_map (λ s. from + length s.above) (nth_of k ss))
line_index (ByText o) from ss = only_index from (filter (has_text o) ss)

-- the same of the recipe line that an edit means
abbrev pub meant_recipe : Edit → (from : ℕ) → List StandingLine → Result ℕ Refusal
meant_recipe (SetRecipe nth t w c) from ss = line_index w from ss
meant_recipe (RemoveLines (OfRecipe nth t w)) from ss = line_index w from ss
meant_recipe e from ss = Err Absent

-- ---- a new recipe line

-- where it goes: where it gets this number, or after the last one
abbrev pub place_for : (number : Option ℕ) → RecipePlace
place_for None = Last
place_for (Some k) = At k

-- a new recipe line there
abbrev pub IsAddRecipe : RecipePlace → Edit → Type 0
IsAddRecipe p (AddRecipe nth t q c) = q ≡ p
IsAddRecipe p e = ⊥

-- the index of the place, among the lines below a header, which stand from this index on
abbrev pub place_index : RecipePlace → (from : ℕ) → List ClassedLine → Option ℕ
place_index Last from ls = Some (from + length (recipe_run ls))
place_index (At k) from ls = option_map (λ gap. from + gap) (nth_of k (gaps_in ls))

-- ---- the line

-- where the command of a recipe line stands among the line's bytes: after the first byte, up to the
-- line end
abbrev pub command_range : (line : List ℕ) → Span
command_range l = record { start = 1; end = length (without_line_end l) }
