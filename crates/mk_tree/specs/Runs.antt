-- Runs: lines of one kind that stand one after the other, which a walk may pass together.
-- Told in docs/ARCHITECTURE.md, "The document".
use Rattle.std.specs.Prelude.{◌≡◌, ◌≤◌, ℕ, Bool, true, false, List, [], ◌∷◌, ◌++◌, length}
use Rattle.mk_class.specs.declared.class.Class.{Class}
use Rattle.mk_class.specs.declared.class.Class.TheVariants.{Recipe, Blank, Comment}
use Rattle.mk_tree.specs.LocatedLines.{LocatedLine}
use Rattle.mk_tree.specs.declared.run.Run.{Run}
use Rattle.mk_tree.specs.declared.run.Run.TheVariants.{Recipes, Gaps}

-- whether a line of this class may stand in a run
abbrev pub is_in_run : Run → Class → Bool
is_in_run Recipes Recipe = true
is_in_run Gaps Blank = true
is_in_run Gaps Comment = true
is_in_run r k = false

-- lines that are a run
abbrev pub AreRun : Run → List LocatedLine → Type 0
AreRun r [] = Unit {0}
AreRun r (l ∷ ls) = (is_in_run r l.class ≡ true) × AreRun r ls

-- a walk has passed this number of the lines that were ahead, and they are a run; the others are left
pub record Passes (run : Run) (most number : ℕ) (ahead left : List LocatedLine) : Type 0 where
  pub passed : List LocatedLine
  pub ahead_is : ahead ≡ passed ++ left
  pub number_is : number ≡ length passed
  pub few : number ≤ most
  pub are_run : AreRun run passed
