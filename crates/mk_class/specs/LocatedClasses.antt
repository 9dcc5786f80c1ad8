-- The class of a line as the code has it: with offsets in the joined text, where the definition has
-- lists of units.
use Rattle.std.specs.Prelude.{ℕ, ◌+◌, Bool, true, false, not, List, length, Option, Some, None}
use Rattle.mk_lines.specs.Lists.{concat}
use Rattle.mk_class.specs.ListTests.{is_empty}
use Rattle.mk_class.specs.Assignments.{Assignment}
use Rattle.mk_class.specs.Headers.{Header, TargetAssignment, inline_recipe}
use Rattle.mk_class.specs.Classes.{Class}
use Rattle.mk_class.specs.declared.assignment.Assignment as assignment
use Rattle.mk_class.specs.declared.assignment.TargetAssignment as target_assignment
use Rattle.mk_class.specs.declared.rule.Header as header
use Rattle.mk_class.specs.declared.class.Class as class
use Rattle.mk_class.specs.declared.class.Class.TheVariants as variants

-- how many joined bytes units have
abbrev pub width : {A : Type 0} → List (List A) → ℕ
width us = length (concat us)

-- whether there is a value
abbrev pub is_some : {A : Type 0} → Option A → Bool
is_some None = false
is_some (Some x) = true

-- the offsets of an assignment whose text begins at this offset
abbrev pub located_assignment : {A : Type 0} → (at : ℕ) → Assignment A → assignment.Assignment
located_assignment at a =
    let name = at + width a.before in
    let name_end = name + width a.name in
    let value = name_end + width a.operator in
    record {
      flavor = a.flavor;
      name = record { start = name; end = name_end };
      value = record { start = value; end = value + width a.value };
      end = (value + width a.value) + width a.after;
    }

-- the offsets of an assignment for targets
abbrev pub located_target_assignment : {A : Type 0} → TargetAssignment A
    → target_assignment.TargetAssignment
located_target_assignment t = record {
  separator = t.separator;
  targets_end = width t.targets;
  assignment = located_assignment (width t.targets + width t.colons) t.assigned;
}

-- the offsets of a header
abbrev pub located_header : {A : Type 0} → (byte : A → ℕ) → Header A → header.Header
located_header byte h =
    let normal = ((width h.targets + width h.colons) + width h.pattern) + width h.second_colon in
    let normal_end = normal + width h.normal in
    record {
      separator = h.separator;
      has_pattern = not (is_empty h.second_colon);
      has_order_only = not (is_empty h.bar);
      has_recipe = is_some (inline_recipe byte h);
      targets_end = width h.targets;
      normal_start = normal;
      normal_end = normal_end;
      head_end = (normal_end + width h.bar) + width h.order_only;
    }

-- the class that the code has for a class of the definition
abbrev pub located_class : {A : Type 0} → (byte : A → ℕ) → Class A → class.Class
located_class byte Class.Endef = variants.Endef
located_class byte (Class.Body n) = variants.Body n
located_class byte Class.Recipe = variants.Recipe
located_class byte Class.Opaque = variants.Opaque
located_class byte Class.Blank = variants.Blank
located_class byte Class.Comment = variants.Comment
located_class byte (Class.Assign a p) = variants.Assign (located_assignment 0 a) p
located_class byte (Class.DefineHead p) = variants.DefineHead p
located_class byte Class.If = variants.If
located_class byte Class.Else = variants.Else
located_class byte Class.Endif = variants.Endif
located_class byte Class.Directive = variants.Directive
located_class byte (Class.TargetAssign t) = variants.TargetAssign (located_target_assignment t)
located_class byte Class.Rough = variants.Rough
located_class byte (Class.Header h) = variants.Header (located_header byte h)

-- whether a line of this class leaves the flag as it is
abbrev pub leaves_flag_located : class.Class → Bool
leaves_flag_located variants.Blank = true
leaves_flag_located variants.Comment = true
leaves_flag_located variants.If = true
leaves_flag_located variants.Else = true
leaves_flag_located variants.Endif = true
leaves_flag_located k = false
