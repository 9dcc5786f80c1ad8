-- Views of lines: what a caller sees of the parts of a line. A class has the offsets of the parts in
-- the line's joined text; a view has the parts.
-- Told in docs/LIBRARY.md, "Lines and their parts".
use Rattle.std.specs.Prelude.{ℕ, ◌+◌, ◌-◌, if◌then◌else◌, List, [], drop, get_or, slice_range, Option, Some, None}
use Rattle.mk_lines.specs.Words.{words_in}
use Rattle.mk_class.specs.Keywords.{after_modifiers}
use Rattle.mk_class.specs.Separators.{separator_length}
use Rattle.mk_class.specs.declared.assignment.Assignment as assignment
use Rattle.mk_class.specs.declared.assignment.TargetAssignment as target_assignment
use Rattle.mk_class.specs.declared.assignment.Flavor.{Flavor}
use Rattle.mk_class.specs.declared.rule.Header as header
use Rattle.mk_class.specs.declared.rule.Separator.{Separator}
use Rattle.mk_class.specs.declared.class.Class as class
use Rattle.mk_class.specs.declared.class.Class.TheVariants as variants
use Rattle.mk_tree.specs.declared.views.line.Conditional.{Conditional}
use Rattle.mk_tree.specs.declared.views.line.Conditional.TheVariants.{If, Else, Endif}
use Rattle.mk_tree.specs.LocatedLines.{LocatedLine, text_of_line}

-- ---- assignments

-- the words before the name, the name, the flavor and the value
pub record AssignmentView : Type 0 where
  pub modifiers : List (List ℕ)
  pub name : List ℕ
  pub flavor : Flavor
  pub value : List ℕ

-- the parts of an assignment in a text; its modifiers begin at an offset
abbrev pub assignment_at : (text : List ℕ) → (start : ℕ) → assignment.Assignment → AssignmentView
assignment_at t start at = record {
  modifiers = words_in (slice_range t start at.name.start);
  name = slice_range t at.name.start at.name.end;
  flavor = at.flavor;
  value = slice_range t at.value.start at.value.end;
}

-- the targets, the separator and the assignment
pub record TargetAssignmentView : Type 0 where
  pub targets : List (List ℕ)
  pub separator : Separator
  pub assignment : AssignmentView

-- the parts of an assignment for targets in a text
abbrev pub target_assignment_at : (text : List ℕ) → target_assignment.TargetAssignment
    → TargetAssignmentView
target_assignment_at t at = record {
  targets = words_in (slice_range t 0 at.targets_end);
  separator = at.separator;
  assignment = assignment_at t (at.targets_end + separator_length at.separator) at.assignment;
}

-- ---- rules

-- The targets, the separator, the words of the pattern, the normal and the order-only prerequisites,
-- and what follows the `;` of an inline recipe.
pub record RuleView : Type 0 where
  pub targets : List (List ℕ)
  pub separator : Separator
  pub pattern : List (List ℕ)
  pub prereqs : List (List ℕ)
  pub order_only : List (List ℕ)
  pub inline_recipe : Option (List ℕ)

-- the parts of the line of a rule in a text
abbrev pub rule_at : (text : List ℕ) → header.Header → RuleView
rule_at t at = record {
  targets = words_in (slice_range t 0 at.targets_end);
  separator = at.separator;
  pattern = words_in (slice_range t (at.targets_end + separator_length at.separator)
      (at.normal_start - (if at.has_pattern then 1 else 0)));
  prereqs = words_in (slice_range t at.normal_start at.normal_end);
  order_only = words_in
      (slice_range t (at.normal_end + (if at.has_order_only then 1 else 0)) at.head_end);
  inline_recipe = if at.has_recipe then Some (drop (at.head_end + 1) t) else None;
}

-- ---- the views of a line

-- the assignment that a line is, by its joined text and its class
abbrev pub assignment_in : (text : List ℕ) → class.Class → Option AssignmentView
assignment_in t (variants.Assign at p) = Some (assignment_at t 0 at)
assignment_in t k = None

abbrev pub target_assignment_in : (text : List ℕ) → class.Class → Option TargetAssignmentView
target_assignment_in t (variants.TargetAssign at) = Some (target_assignment_at t at)
target_assignment_in t k = None

abbrev pub rule_in : (text : List ℕ) → class.Class → Option RuleView
rule_in t (variants.Header at) = Some (rule_at t at)
rule_in t k = None

-- what follows the first byte of a recipe line
abbrev recipe_in : (text : List ℕ) → class.Class → Option (List ℕ)
recipe_in t variants.Recipe = Some (drop 1 t)
recipe_in t k = None

abbrev pub assignment_of : LocatedLine → Option AssignmentView
assignment_of l = assignment_in (text_of_line l) l.class

abbrev pub target_assignment_of : LocatedLine → Option TargetAssignmentView
target_assignment_of l = target_assignment_in (text_of_line l) l.class

abbrev pub rule_of : LocatedLine → Option RuleView
rule_of l = rule_in (text_of_line l) l.class

abbrev pub recipe_of : LocatedLine → Option (List ℕ)
recipe_of l = recipe_in (text_of_line l) l.class

-- the second of the words that follow the modifiers of the line that begins a define, if there is one
abbrev define_in : (text : List ℕ) → class.Class → Option (List ℕ)
define_in t (variants.DefineHead p) = Some (get_or (after_modifiers (words_in t)) 1 [])
define_in t k = None

abbrev pub define_of : LocatedLine → Option (List ℕ)
define_of l = define_in (text_of_line l) l.class

-- which line of a conditional a line is
abbrev conditional_in : class.Class → Option Conditional
conditional_in variants.If = Some If
conditional_in variants.Else = Some Else
conditional_in variants.Endif = Some Endif
conditional_in k = None

abbrev pub conditional_of : LocatedLine → Option Conditional
conditional_of l = conditional_in l.class
