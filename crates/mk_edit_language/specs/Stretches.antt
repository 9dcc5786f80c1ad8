-- Stretches of lines: those that an edit takes out, and those where it puts a new line.
-- Told in docs/EDITS.md, "Addresses", "Variables", "Rules" and "Recipes".
use Rattle.std.specs.Prelude.{ℕ, Bool, List, [], ◌∷◌, ◌++◌, map, take, drop, filter, length, Option, Some, None, option_map, option_and_then, ◌≡◌}
use Rattle.std.specs.Str.{bytes_eq}
use Rattle.mk_lines.specs.PhysicalLines.{without_line_end}
use Rattle.mk_class.specs.Classes.{is_recipe}
use Rattle.mk_class.specs.ClassedLines.{ClassedLine}
use Rattle.mk_tree.specs.RecipeLines.{recipe_run, after_recipe, recipe_lines}
use Rattle.mk_tree.specs.LineTexts.{StandingLine}
use Rattle.mk_edit_language.specs.Edits.{Place, Top, Bottom, BeforeVar, AfterVar, AfterLastVar, BeforeRule, AfterRule, One, Every, RecipeLine, ByNumber, ByText, RecipePlace, Last, At, Removal, OfAssign, OfRule, OfRecipe, Edit, ChangeValue, ChangeLine, ChangePrereqs, AddLine, AddRecipe, SetRecipe, RemoveLines, RenameTarget, ExchangeLines, EachLine, SwitchLine}
use Rattle.mk_edit_language.specs.Spots.{spots, nth_of}
use Rattle.mk_edit_language.specs.Addresses.{Variable, LastVariable, Rule, found, value_address, switch_address}

-- A stretch: some lines, or none, with the lines above and below them.
pub record Stretch : Type 0 where
  pub above : List ClassedLine
  pub lines : List ClassedLine
  pub below : List ClassedLine

-- a stretch with one more line at its front, and with one more line above it
abbrev pub led_by : ClassedLine → Stretch → Stretch
led_by l s = record s { lines = l ∷ s.lines }

abbrev pub lower : ClassedLine → Stretch → Stretch
lower l s = record s { above = l ∷ s.above }

-- the stretch of one line
abbrev pub this_line : StandingLine → Stretch
this_line s = record { above = s.above; lines = s.line ∷ []; below = s.below }

-- the empty stretch directly before a line
abbrev pub before_line : StandingLine → Stretch
before_line s = record { above = s.above; lines = []; below = s.line ∷ s.below }

-- the empty stretch directly after a line
abbrev pub after_line : StandingLine → Stretch
after_line s = record { above = s.above ++ s.line ∷ []; lines = []; below = s.below }

-- the empty stretch at the start of the text
abbrev pub top : List ClassedLine → Stretch
top ls = record { above = []; lines = []; below = ls }

-- the empty stretch at the end of the text
abbrev pub bottom : List ClassedLine → Stretch
bottom ls = record { above = ls; lines = []; below = [] }

-- the stretch of a header, its recipe lines, and the lines between them
abbrev pub whole_rule : StandingLine → Stretch
whole_rule h =
    record { above = h.above; lines = h.line ∷ recipe_run h.below; below = after_recipe h.below }

-- the empty stretch directly after the last recipe line of a header, or after the header if it has
-- no recipe line
abbrev pub after_rule : StandingLine → Stretch
after_rule h =
    record
    { above = h.above ++ h.line ∷ recipe_run h.below; lines = []; below = after_recipe h.below }

-- a spot below a header, as a spot of the whole text
abbrev pub below_header : StandingLine → StandingLine → StandingLine
below_header h s = record { above = h.above ++ h.line ∷ s.above; line = s.line; below = s.below }

-- the recipe lines of a header
abbrev pub recipe_spots : StandingLine → List StandingLine
recipe_spots h =
    map (below_header h)
    (take (length (recipe_lines h.below)) (spots (λ l. is_recipe l.class) h.below))

-- whether a recipe line has this text: after its first byte, up to its line end
abbrev pub has_text : List ℕ → StandingLine → Bool
has_text o s = bytes_eq (drop 1 (without_line_end s.line.bytes)) o

-- the recipe line of a header that is meant: of those that have a text, the first
abbrev pub recipe_spot : RecipeLine → StandingLine → Option StandingLine
recipe_spot (ByNumber k) h = nth_of k (recipe_spots h)
recipe_spot (ByText o) h = nth_of 1 (filter (has_text o) (recipe_spots h))

-- the recipe line of a rule that is meant
abbrev pub recipe_found : List ClassedLine → (nth : Option ℕ) → (target : List ℕ) → RecipeLine
    → Option StandingLine
recipe_found ls nth t w = option_and_then (recipe_spot w) (found ls (Rule nth t))

-- the recipe lines of the rule that is found
abbrev pub recipes_found : Option StandingLine → List StandingLine
recipes_found None = []
recipes_found (Some h) = recipe_spots h

-- ---- places of new lines

-- where a new recipe line of a header can go: before each of its recipe lines, and after the last
abbrev pub recipe_gaps : StandingLine → List Stretch
recipe_gaps h = map before_line (recipe_spots h) ++ after_rule h ∷ []

-- the place for a new recipe line of a header
abbrev pub recipe_gap : RecipePlace → StandingLine → Option Stretch
recipe_gap Last h = Some (after_rule h)
recipe_gap (At k) h = nth_of k (recipe_gaps h)

-- the place for a new recipe line of a rule
abbrev pub recipe_place : List ClassedLine → (nth : Option ℕ) → (target : List ℕ) → RecipePlace
    → Option Stretch
recipe_place ls nth t p = option_and_then (recipe_gap p) (found ls (Rule nth t))

-- the empty stretch where the new line of this place goes
abbrev pub place_found : List ClassedLine → Place → Option Stretch
place_found ls Top = Some (top ls)
place_found ls Bottom = Some (bottom ls)
place_found ls (BeforeVar nth n) = option_map before_line (found ls (Variable nth n))
place_found ls (AfterVar nth n) = option_map after_line (found ls (Variable nth n))
place_found ls (AfterLastVar n) = option_map after_line (found ls (LastVariable n))
place_found ls (BeforeRule nth t) = option_map before_line (found ls (Rule nth t))
place_found ls (AfterRule nth t) = option_map after_rule (found ls (Rule nth t))

-- the empty stretch where the new line of an edit goes
abbrev pub insertion : List ClassedLine → Edit → Option Stretch
insertion ls (AddLine p l) = place_found ls p
insertion ls (AddRecipe nth t p c) = recipe_place ls nth t p
insertion ls e = None

-- ---- lines of the text

-- the stretch of the lines to take out
abbrev pub removed : List ClassedLine → Removal → Option Stretch
removed ls (OfAssign nth n) = option_map this_line (found ls (Variable nth n))
removed ls (OfRule nth t) = option_map whole_rule (found ls (Rule nth t))
removed ls (OfRecipe nth t w) = option_map this_line (recipe_found ls nth t w)

-- the stretch of the lines that an edit takes out
abbrev pub removal : List ClassedLine → Edit → Option Stretch
removal ls (RemoveLines r) = removed ls r
removal ls e = None

-- a stretch of the text's lines
abbrev pub IsStretchOf : List ClassedLine → Stretch → Type 0
IsStretchOf ls s = ls ≡ s.above ++ (s.lines ++ s.below)

-- the empty stretch between the same lines above and below, where a new line goes
abbrev pub between : Stretch → Stretch
between s = record { above = s.above; lines = []; below = s.below }

-- The lines that an edit of one place touches: the line that it changes, or the lines that it takes
-- out; if it puts a line in, the empty stretch at its place.
abbrev pub touched_by : List ClassedLine → Edit → Option Stretch
touched_by ls (ChangeValue (One nth) n c) = option_map this_line (found ls (value_address nth n c))
touched_by ls (ChangeValue Every n c) = None
touched_by ls (ChangeLine nth n c) = option_map this_line (found ls (Variable nth n))
touched_by ls (ChangePrereqs nth t c) = option_map this_line (found ls (Rule nth t))
touched_by ls (SetRecipe nth t w c) = option_map this_line (recipe_found ls nth t w)
touched_by ls (RemoveLines r) = removed ls r
touched_by ls (SwitchLine w nth n) =
    option_map this_line (found ls (switch_address w nth n))
touched_by ls (RenameTarget o n) = None
touched_by ls (ExchangeLines s ts) = None
touched_by ls (EachLine e) = None
touched_by ls e = option_map between (insertion ls e)
