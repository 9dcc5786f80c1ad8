-- What the removal of a rule takes out: its line and its recipe, and nothing else. The lines and
-- the reading say so here, without the stretch that the definition of the edit takes out.
-- Told in docs/PROOFS.md, "An edit".
use Rattle.std.specs.Prelude.{◌≡◌, ℕ, Bool, true, false, not, ◌&&◌, ◌||◌, List, [], ◌∷◌, ◌++◌, map, filter, drop, Option, Some, Ok}
use Rattle.mk_lines.specs.PhysicalLines.{without_line_end}
use Rattle.mk_lines.specs.Cells.{Cell, joined_byte}
use Rattle.mk_lines.specs.Pieces.{Replacement}
use Rattle.mk_lines.specs.Lists.{Each}
use Rattle.mk_class.specs.ListTests.{first_passes}
use Rattle.mk_class.specs.Texts.{word_texts}
use Rattle.mk_class.specs.Headers.{Header}
use Rattle.mk_class.specs.Classes.{Class, is_recipe}
use Rattle.mk_class.specs.Classes.Class.{Recipe as RecipeLine, Blank, Comment, Header as HeaderLine}
use Rattle.mk_class.specs.ClassedLines.{ClassedLine, classed_lines}
use Rattle.mk_tree.specs.RecipeLines.{ends_rule}
use Rattle.mk_tree.specs.Items.{Item, Recipe, items, header_item}
use Rattle.mk_tree.specs.Readings.{reading}
use Rattle.mk_tree.specs.LineTexts.{StandingLine}
use Rattle.mk_edit_language.specs.Edits.{OfRule, RemoveLines}
use Rattle.mk_edit_language.specs.Addresses.{Rule, found}
use Rattle.mk_edit_language.specs.Refusals.{spans, text_after}

-- ---- the lines of a recipe

-- whether a line of this class is a recipe line, or a line that reads as nothing
abbrev pub is_of_recipe : Class Cell → Bool
is_of_recipe RecipeLine = true
is_of_recipe Blank = true
is_of_recipe Comment = true
is_of_recipe k = false

-- whether the last of some lines, if there is one, is a recipe line
abbrev pub ends_in_recipe : List ClassedLine → Bool
ends_in_recipe [] = true
ends_in_recipe (l ∷ []) = is_recipe l.class
ends_in_recipe (l ∷ m ∷ ls) = ends_in_recipe (m ∷ ls)

-- whether some lines of a rule have a recipe line before the line that ends the rule
abbrev pub recipe_goes_on : List ClassedLine → Bool
recipe_goes_on [] = false
recipe_goes_on (l ∷ ls) = is_recipe l.class || (not (ends_rule l.class) && recipe_goes_on ls)

-- the texts of the recipe lines among some lines: each without its first byte, the prefix, and
-- without its line end
abbrev pub commands : List ClassedLine → List (List ℕ)
commands ls = map (λ l. drop 1 (without_line_end l.bytes)) (filter (λ l. is_recipe l.class) ls)

-- whether an item is that of a recipe line
abbrev pub is_recipe_item : Item → Bool
is_recipe_item (Recipe c) = true
is_recipe_item i = false

-- ---- the law

-- What the removal of a rule takes out. The rule is the one that the address means, and the target
-- is its only target. Its line goes, with some lines directly below it: each of these is a recipe
-- line, a blank line or a comment, and the last is a recipe line. The lines above and below stay,
-- and no line below is a recipe line of the rule. The lines that go read as the item of the header
-- and, after it, the items of the recipe lines; these items go from the reading, and the next item
-- is not that of a recipe line.
pub record TakesTheRuleAlone (nth : Option ℕ) (target text : List ℕ) : Type 0 where
  pub rule : StandingLine
  pub header : Header Cell
  pub recipe : List ClassedLine
  pub rest : List ClassedLine
  pub addressed : found (classed_lines text) (Rule nth target) ≡ Some rule
  pub is_header : rule.line.class ≡ HeaderLine header
  pub only_target : word_texts joined_byte header.targets ≡ target ∷ []
  pub lines_before : classed_lines text ≡ rule.above ++ (rule.line ∷ (recipe ++ rest))
  pub lines_after : classed_lines (text_after text (RemoveLines (OfRule nth target))) ≡ rule.above ++ rest
  pub of_recipe : Each (λ l. is_of_recipe l.class) recipe
  pub last : ends_in_recipe recipe ≡ true
  pub no_more : recipe_goes_on rest ≡ false
  pub taken : items (rule.line ∷ recipe) ≡ header_item header ∷ map Recipe (commands recipe)
  pub reading_before : reading text
      ≡ items rule.above ++ (header_item header ∷ (map Recipe (commands recipe) ++ items rest))
  pub reading_after : reading (text_after text (RemoveLines (OfRule nth target)))
      ≡ items rule.above ++ items rest
  pub next_item : first_passes is_recipe_item (items rest) ≡ false

-- an accepted removal of a rule takes out its line and its recipe, and nothing else
abbrev pub RemoveRuleTakesTheRuleAlone : Type 0
RemoveRuleTakesTheRuleAlone = (nth : Option ℕ) (target text : List ℕ)
    (replacements : List Replacement) → spans text (RemoveLines (OfRule nth target)) ≡ Ok replacements
    → TakesTheRuleAlone nth target text
