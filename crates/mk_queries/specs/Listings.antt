-- What a walk over a document shows: its lines where they stand, its assignments, its rules, and the
-- recipe lines of a rule.
-- Told in docs/LIBRARY.md, "Walking over a makefile".
use Rattle.std.specs.Prelude.{◌≡◌, ◌==◌, ◌||◌, ℕ, ◌+◌, if◌then◌else◌, Bool, true, List, [], ◌∷◌, ◌++◌, length, count_by, Option, Some, None, MatchOption, is_some}
use Rattle.std.specs.Borrow.{Bor}
use Rattle.std.specs.Str.{bytes_eq}
use Rattle.mk_lines.specs.Lists.{leading}
use Rattle.mk_class.specs.Contexts.{start}
use Rattle.mk_class.specs.LocatedClasses.{leaves_flag_located}
use Rattle.mk_class.specs.Texts.{is_one_of}
use Rattle.mk_tree.specs.LocatedLines.{LocatedLine, located_text, context_after_located_lines}
use Rattle.mk_tree.specs.Trees.{line_view}
use Rattle.mk_tree.specs.declared.tree.Line.{Line}
use Rattle.mk_tree.specs.Views.{AssignmentView, RuleView, assignment_of, recipe_of, rule_of}
use Rattle.mk_queries.specs.declared.listing.assignment.AssignmentLine.{AssignmentLine}
use Rattle.mk_queries.specs.declared.listing.position.Position.{Position}

-- ---- lines where they stand

-- where a line stands that has the lines `above` above it: how many these are, from which number on
-- its physical lines count, and how many conditionals are open
abbrev pub position_below : (above : List LocatedLine) → Position
position_below above = record {
  index = length above;
  number = count_by (λ b. b == 10) (located_text above) + 1;
  conditionals = (context_after_located_lines start above).conditionals;
}

-- some lines of a document: those that a walk has passed, and those that it has ahead
pub record Walk : Type 0 where
  pub above : List LocatedLine
  pub ahead : List LocatedLine

-- a line where it stands, and the walk below it
pub record Standing : Type 0 where
  pub position : Position
  pub line : LocatedLine
  pub below : Walk

-- lines that have the lines `above` above them, each where it stands
abbrev pub standing_below : (above : List LocatedLine) → List LocatedLine → List Standing
standing_below above [] = []
standing_below above (l ∷ ls) =
    record {
      position = position_below above;
      line = l;
      below = record { above = above ++ l ∷ []; ahead = ls };
    } ∷ standing_below (above ++ l ∷ []) ls

-- the lines that a walk has ahead, each where it stands
abbrev pub standing : Walk → List Standing
standing w = standing_below w.above w.ahead

-- a walk over all lines of a document
abbrev pub whole : List LocatedLine → Walk
whole ls = record { above = []; ahead = ls }

-- the first of the lines that are ahead is handed out with its position, and is passed then
abbrev pub GivesStanding : {A : _} → Walk → Option (Position × Bor (Line A)) → Walk → Type 0
GivesStanding walk given left =
    MatchOption given ((walk.ahead ≡ []) × (left ≡ walk))
    (λ pair. (pair.0 ≡ position_below walk.above)
    × (walk.ahead ≡ line_view pair.1.now ∷ left.ahead)
    × (left.above ≡ walk.above ++ line_view pair.1.now ∷ []))

-- ---- what is seen of lines

-- what is seen of a line, with where the line stands and the walk below it
pub record Spot (V : Type 0) : Type 0 where
  pub position : Position
  pub shown : V
  pub below : Walk

module _ {V : Type 0} (view : LocatedLine → Option V) (passes : V → Bool) where
  -- what is seen of a line before what is seen of others: nothing, if it has no view or its view
  -- fails the test
  abbrev pub seen_before : Standing → Option V → List (Spot V) → List (Spot V)
  seen_before s None rest = rest
  seen_before s (Some v) rest =
      if passes v then record { position = s.position; shown = v; below = s.below } ∷ rest
      else rest

  -- what is seen of some lines
  abbrev pub seen : List Standing → List (Spot V)
  seen [] = []
  seen (s ∷ ss) = seen_before s (view s.line) (seen ss)

-- whether an assignment is one of a variable of this name; each is, if no name is asked for
abbrev pub is_of : (name : Option (List ℕ)) → AssignmentView → Bool
is_of None a = true
is_of (Some n) a = bytes_eq a.name n

-- whether a rule is one for this target; each is, if no target is asked for
abbrev pub is_for : (target : Option (List ℕ)) → RuleView → Bool
is_for None r = true
is_for (Some t) r = is_one_of t r.targets

-- ---- what is listed

-- assignments with their numbers; the first has this one
abbrev pub assignment_lines : (nth : ℕ) → List (Spot AssignmentView) → List AssignmentLine
assignment_lines n [] = []
assignment_lines n (s ∷ ss) =
    record { position = s.position; nth = n; assignment = s.shown } ∷ assignment_lines (n + 1) ss

-- the assignments that a walk has ahead, of one name if one is asked for; the first has this number
abbrev pub assignments_ahead : (name : Option (List ℕ)) → (nth : ℕ) → Walk → List AssignmentLine
assignments_ahead name n w = assignment_lines n (seen assignment_of (is_of name) (standing w))

-- the line of a rule where it stands, with its number among those listed, and the walk below it
pub record RuleSpot : Type 0 where
  pub position : Position
  pub nth : ℕ
  pub rule : RuleView
  pub below : Walk

-- rules with their numbers; the first has this one
abbrev pub rule_spots : (nth : ℕ) → List (Spot RuleView) → List RuleSpot
rule_spots n [] = []
rule_spots n (s ∷ ss) =
    record { position = s.position; nth = n; rule = s.shown; below = s.below }
    ∷ rule_spots (n + 1) ss

-- the rules that a walk has ahead, for one target if one is asked for; the first has this number
abbrev pub rules_ahead : (target : Option (List ℕ)) → (nth : ℕ) → Walk → List RuleSpot
rules_ahead target n w = rule_spots n (seen rule_of (is_for target) (standing w))

-- whether a line may stand among the recipe lines of the rule above it
abbrev pub stays : LocatedLine → Bool
stays l = is_some (recipe_of l) || leaves_flag_located l.class

-- a recipe line where it stands, with its number in its rule and its text after the prefix
pub record RecipeSpot : Type 0 where
  pub position : Position
  pub number : ℕ
  pub text : List ℕ

-- recipe lines with their numbers; the first has this one
abbrev pub recipe_spots : (number : ℕ) → List (Spot (List ℕ)) → List RecipeSpot
recipe_spots n [] = []
recipe_spots n (s ∷ ss) =
    record { position = s.position; number = n; text = s.shown } ∷ recipe_spots (n + 1) ss

-- what is seen of the recipe lines that a walk below the line of a rule has ahead, up to the first
-- line that ends the rule
abbrev pub seen_recipes : Walk → List (Spot (List ℕ))
seen_recipes w = seen recipe_of (λ text. true) (leading (λ s. stays s.line) (standing w))

-- these recipe lines; the first has this number
abbrev pub recipes_ahead : (number : ℕ) → Walk → List RecipeSpot
recipes_ahead n w = recipe_spots n (seen_recipes w)
