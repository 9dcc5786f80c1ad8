-- What the views of a line show: the parts that the definition of classes gives.
-- Told in docs/LIBRARY.md, "Lines and their parts".
use Rattle.std.specs.Prelude.{◌≡◌, ℕ, List, Option, Some, None}
use Rattle.mk_lines.specs.Cells.{Cell, joined_byte}
use Rattle.mk_class.specs.Texts.{unit_text, word_texts}
use Rattle.mk_class.specs.Assignments.{Assignment}
use Rattle.mk_class.specs.Headers
use Rattle.mk_class.specs.Headers.{TargetAssignment}
use Rattle.mk_class.specs.Classes.{Class}
use Rattle.mk_class.specs.Classes.Class.{Assign, TargetAssign, Header}
use Rattle.mk_class.specs.ClassTable.{class_of}
use Rattle.mk_class.specs.Contexts.{Context}
use Rattle.mk_class.specs.LocatedClasses.{located_class}
use Rattle.mk_tree.specs.LocatedLines.{LocatedLine}
use Rattle.mk_tree.specs.Views.{AssignmentView, TargetAssignmentView, RuleView, assignment_of, target_assignment_of, rule_of}

-- a line of a document that stands in a context
abbrev line_in : Context → (bytes : List ℕ) → LocatedLine
line_in c l = record { bytes = l; class = located_class joined_byte (class_of c l) }

-- ---- what is seen is a part of the line

pub record ShowsAssignment (v : AssignmentView) (a : Assignment Cell) : Type 0 where
  pub name : v.name ≡ unit_text joined_byte a.name
  pub flavor : v.flavor ≡ a.flavor
  pub value : v.value ≡ unit_text joined_byte a.value

pub record ShowsTargetAssignment (v : TargetAssignmentView) (t : TargetAssignment Cell)
    : Type 0 where
  pub targets : v.targets ≡ word_texts joined_byte t.targets
  pub separator : v.separator ≡ t.separator
  pub assignment : ShowsAssignment v.assignment t.assigned

pub record ShowsRule (v : RuleView) (h : Headers.Header Cell) : Type 0 where
  pub targets : v.targets ≡ word_texts joined_byte h.targets
  pub separator : v.separator ≡ h.separator
  pub pattern : v.pattern ≡ word_texts joined_byte h.pattern
  pub prereqs : v.prereqs ≡ word_texts joined_byte h.normal
  pub order_only : v.order_only ≡ word_texts joined_byte h.order_only

-- ---- there is a view exactly where the line has the class

abbrev pub SeesAssignment : Class Cell → Option AssignmentView → Type 0
SeesAssignment (Assign a p) (Some v) = ShowsAssignment v a
SeesAssignment (Assign a p) None = ⊥
SeesAssignment k v = v ≡ None

abbrev pub SeesTargetAssignment : Class Cell → Option TargetAssignmentView → Type 0
SeesTargetAssignment (TargetAssign t) (Some v) = ShowsTargetAssignment v t
SeesTargetAssignment (TargetAssign t) None = ⊥
SeesTargetAssignment k v = v ≡ None

abbrev pub SeesRule : Class Cell → Option RuleView → Type 0
SeesRule (Header h) (Some v) = ShowsRule v h
SeesRule (Header h) None = ⊥
SeesRule k v = v ≡ None

-- the laws

abbrev pub AssignmentsAreSeen : Type 0
AssignmentsAreSeen = (c : Context) (l : List ℕ)
    → SeesAssignment (class_of c l) (assignment_of (line_in c l))

abbrev pub TargetAssignmentsAreSeen : Type 0
TargetAssignmentsAreSeen = (c : Context) (l : List ℕ)
    → SeesTargetAssignment (class_of c l) (target_assignment_of (line_in c l))

abbrev pub RulesAreSeen : Type 0
RulesAreSeen = (c : Context) (l : List ℕ) → SeesRule (class_of c l) (rule_of (line_in c l))
