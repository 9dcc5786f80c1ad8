-- What the queries print of an assignment, of a rule, of a recipe line and of a line that is not read
-- inside, each with where it stands.
-- Told in docs/EDITS.md, "Queries".
use Rattle.std.specs.Prelude.{ℕ, zero, suc, ◌+◌, ◌==◌, if◌then◌else◌, List, [], ◌∷◌, ◌++◌, length, slice_get, Option, Some, None, codes, decimal}
use Rattle.mk_lines.specs.Spacing.{after_space, each_after_space, spaced_words}
use Rattle.mk_class.specs.Contexts.{Context}
use Rattle.mk_class.specs.OperatorTexts.{operator_text, separator_text}
use Rattle.mk_class.specs.declared.class.Class.{Class}
use Rattle.mk_class.specs.declared.class.Class.TheVariants.{Opaque, Rough}
use Rattle.mk_class.specs.declared.rule.Separator.{Separator}
use Rattle.mk_tree.specs.Views.{AssignmentView, TargetAssignmentView}
use Rattle.mk_queries.specs.Listings.{RecipeSpot, RuleSpot, recipes_ahead}
use Rattle.mk_queries.specs.declared.listing.position.Position.{Position}

-- where a line stands: its number, and how many conditionals are open there
abbrev pub position_text : Position → List ℕ
position_text p = decimal p.number ++ (codes ":" ++ (decimal p.conditionals ++ codes ":"))

-- targets, with a space before them and one space between them, and the separator
abbrev pub targets_text : List (List ℕ) → Separator → List ℕ
targets_text ts s = codes " " ++ (spaced_words ts ++ separator_text s)

-- ---- assignments

-- the modifiers, the name, the operator, and the value if it is not empty, each with a space before it
abbrev pub assigned_text : AssignmentView → List ℕ
assigned_text a =
    each_after_space a.modifiers ++ (codes " " ++ (a.name ++ (codes " " ++ (operator_text a.flavor
    ++ (after_space a.value ++ codes "\n")))))

-- an assignment for targets
abbrev pub target_assigned_text : TargetAssignmentView → List ℕ
target_assigned_text a = targets_text a.targets a.separator ++ assigned_text a.assignment

-- ---- rules

-- a pattern, if there is one, with a space before it and a `:` after it
abbrev pub pattern_text : Option (List ℕ) → List ℕ
pattern_text None = []
pattern_text (Some pattern) = codes " " ++ (pattern ++ codes ":")

-- order-only prerequisites, if there are any: a `|` and each of them, with a space before it
abbrev pub order_only_text : List (List ℕ) → List ℕ
order_only_text [] = []
order_only_text (w ∷ ws) = codes " |" ++ each_after_space (w ∷ ws)

-- the number of recipe lines, at the end of a line
abbrev pub count_text : ℕ → List ℕ
count_text n = codes " [" ++ (decimal n ++ codes "]\n")

-- how many recipe lines an inline recipe counts as
abbrev pub inline_count : Option (List ℕ) → ℕ
inline_count None = 0
inline_count (Some text) = 1

-- a rule
abbrev pub rule_text : RuleSpot → List ℕ
rule_text r =
    position_text r.position ++ (targets_text r.rule.targets r.rule.separator
    ++ (pattern_text (slice_get r.rule.pattern 0) ++ (each_after_space r.rule.prereqs
    ++ (order_only_text r.rule.order_only
    ++ count_text (length (recipes_ahead 1 r.below) + inline_count r.rule.inline_recipe)))))

-- what stands before the recipe line of this number of a rule: before the first one, the targets of the rule
abbrev pub before_recipe : RuleSpot → (number : ℕ) → List ℕ
before_recipe r n =
    if n == 1 then position_text r.position ++ (targets_text r.rule.targets r.rule.separator
    ++ codes "\n") else []

-- a recipe line of a rule
abbrev pub recipe_text : RuleSpot → RecipeSpot → List ℕ
recipe_text r l =
    before_recipe r l.number ++ (position_text l.position ++ (codes " [" ++ (decimal l.number
    ++ (codes "] " ++ (l.text ++ codes "\n")))))

-- ---- what is not read inside, and what is open

-- a line of this number and class, if it is kept and not read inside
abbrev pub unread_text : (number : ℕ) → Class → List ℕ
unread_text n Rough = decimal n ++ codes ": rough\n"
unread_text n Opaque = decimal n ++ codes ": opaque\n"
unread_text n k = []

-- how many of this kind are open at the end of a makefile; nothing if none are
abbrev pub open_text : (kind : List ℕ) → (count : ℕ) → List ℕ
open_text k zero = []
open_text k (suc n) = codes "end: " ++ (k ++ (codes " " ++ (decimal (suc n) ++ codes "\n")))

-- what is open at the end of a makefile
abbrev pub end_text : Context → List ℕ
end_text c =
    open_text (codes "conditionals") c.conditionals ++ open_text (codes "defines") c.defines
