-- What goes with a rule if whole lines take its place: its run. The lines say so here, without the walk
-- by which the definition of the edit finds the run.
-- Told in docs/PROOFS.md, "An edit".
use Rattle.std.specs.Prelude.{◌≡◌, ◌<◌, ℕ, Bool, true, false, List, [], ◌∷◌, Option, Some, Ok}
use Rattle.mk_lines.specs.Cells.{Cell, joined_byte}
use Rattle.mk_lines.specs.Lists.{Each}
use Rattle.mk_lines.specs.Pieces.{Replacement}
use Rattle.mk_class.specs.Texts.{word_texts}
use Rattle.mk_class.specs.Headers.{Header}
use Rattle.mk_class.specs.Classes.{Class}
use Rattle.mk_class.specs.Classes.Class.{Else, Endif, Header as HeaderLine}
use Rattle.mk_class.specs.Contexts.{conditionals_after}
use Rattle.mk_class.specs.ClassedLines.{ClassedLine, classed_lines}
use Rattle.mk_tree.specs.RecipeLines.{stays_in_rule}
use Rattle.mk_tree.specs.LineTexts.{StandingLine}
use Rattle.mk_edit_language.specs.Edits.{OfRuleRun, ExchangeLines}
use Rattle.mk_edit_language.specs.Addresses.{Rule, found}
use Rattle.mk_edit_language.specs.Stretches.{Stretch, IsStretchOf}
use Rattle.mk_edit_language.specs.LineRuns.{site_found}
use Rattle.mk_edit_language.specs.Refusals.{spans}
use Rattle.mk_edit_language.specs.RuleTaken.{recipe_goes_on}

-- whether a line of this class belongs to a conditional that begins above it
abbrev pub ends_branch : Class Cell → Bool
ends_branch Else = true
ends_branch Endif = true
ends_branch k = false

-- lines that end each conditional that begins in them, and belong to no other; so many of theirs are
-- open before the first
abbrev pub AreWhole : (begun : ℕ) → List ClassedLine → Type 0
AreWhole n [] = n ≡ 0
AreWhole n (l ∷ ls) =
    (ends_branch l.class ≡ true → 0 < n) × AreWhole (conditionals_after n l.class) ls

-- What goes with a rule if whole lines take its place. The rule is the one that the address means, and
-- the target is its only target. Its line goes, with some lines directly below it: each of these is a
-- recipe line, a blank line, a comment or the line of a conditional that begins and ends among them. The
-- lines above and below stay, and no line below is a recipe line of the rule.
pub record TakesTheRunOfTheRule (nth : Option ℕ) (target text : List ℕ) : Type 0 where
  pub rule : StandingLine
  pub header : Header Cell
  pub run : Stretch
  pub others : List ClassedLine
  pub addressed : found (classed_lines text) (Rule nth target) ≡ Some rule
  pub is_header : rule.line.class ≡ HeaderLine header
  pub only_target : word_texts joined_byte header.targets ≡ target ∷ []
  pub goes : site_found (classed_lines text) (OfRuleRun nth target) ≡ Some run
  pub stretch : IsStretchOf (classed_lines text) run
  pub above : run.above ≡ rule.above
  pub lines : run.lines ≡ rule.line ∷ others
  pub of_rule : Each (λ l. stays_in_rule l.class) others
  pub whole : AreWhole 0 others
  pub no_more : recipe_goes_on run.below ≡ false

-- if whole lines take the place of a rule, its run goes
abbrev pub ExchangedRulesGoWhole : Type 0
ExchangedRulesGoWhole = (nth : Option ℕ) (target : List ℕ) (new : List (List ℕ)) (text : List ℕ)
    (replacements : List Replacement)
    → spans text (ExchangeLines (OfRuleRun nth target) new) ≡ Ok replacements
    → TakesTheRunOfTheRule nth target text
