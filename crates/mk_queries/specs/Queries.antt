-- The texts that the queries write of the lines of a document.
-- Told in docs/EDITS.md, "Queries".
use Rattle.std.specs.Prelude.{ℕ, if◌then◌else◌, Bool, List, [], ◌++◌, Option, Some, None}
use Rattle.std.specs.List.{flat_map}
use Rattle.mk_class.specs.Contexts.{start}
use Rattle.mk_tree.specs.LocatedLines.{LocatedLine, context_after_located_lines}
use Rattle.mk_tree.specs.Views.{assignment_of, target_assignment_of}
use Rattle.mk_queries.specs.Listings.{RuleSpot, is_of, recipes_ahead, rules_ahead, standing, whole}
use Rattle.mk_queries.specs.declared.listing.position.Position.{Position}
use Rattle.mk_queries.specs.Texts.{assigned_text, end_text, position_text, recipe_text, rule_text, target_assigned_text, unread_text}

-- ---- `vars`

-- what is said of what is seen of a line, if that passes a test
abbrev pub said_if : {V : Type 0} → (passes : V → Bool) → (say : V → List ℕ) → Option V → List ℕ
said_if passes say None = []
said_if passes say (Some v) = if passes v then say v else []

-- what is said of a line that stands here, if it is an assignment, for targets or not
abbrev pub variable_line : (name : Option (List ℕ)) → Position → LocatedLine → List ℕ
variable_line n p l =
    said_if (is_of n) (λ a. position_text p ++ assigned_text a) (assignment_of l)
    ++ said_if (λ a. is_of n a.assignment) (λ a. position_text p ++ target_assigned_text a)
    (target_assignment_of l)

-- the text of `vars`, of one name if one is asked for
abbrev pub vars_text : (name : Option (List ℕ)) → List LocatedLine → List ℕ
vars_text n ls = flat_map (λ s. variable_line n s.position s.line) (standing (whole ls))

-- ---- `rules` and `recipes`

-- the text of `rules`, for one target if one is asked for
abbrev pub rules_text : (target : Option (List ℕ)) → List LocatedLine → List ℕ
rules_text t ls = flat_map rule_text (rules_ahead t 1 (whole ls))

-- what is said of a rule that has recipe lines, and of these
abbrev pub rule_recipes : RuleSpot → List ℕ
rule_recipes r = flat_map (recipe_text r) (recipes_ahead 1 r.below)

-- the text of `recipes`, for one target if one is asked for
abbrev pub recipes_text : (target : Option (List ℕ)) → List LocatedLine → List ℕ
recipes_text t ls = flat_map rule_recipes (rules_ahead t 1 (whole ls))

-- ---- `check`

-- the text of `check`
abbrev pub check_text : List LocatedLine → List ℕ
check_text ls =
    flat_map (λ s. unread_text s.position.number s.line.class) (standing (whole ls))
    ++ end_text (context_after_located_lines start ls)
