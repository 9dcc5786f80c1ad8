-- The class that a short class stands for, and which classes are not short.
use Rattle.std.specs.Prelude.{◌≡◌, ◌⊎◌, ℕ, ◌^◌, ◌≤◌, max, true, false, None, Some, ⊤}
use Rattle.mk_class.specs.declared.assignment.Assignment as assignment
use Rattle.mk_class.specs.declared.assignment.Flavor as flavor
use Rattle.mk_class.specs.declared.rule.Header as header
use Rattle.mk_class.specs.declared.class.Class as class
use Rattle.mk_class.specs.declared.class.Class.TheVariants as variants
use Rattle.mk_tree.specs.declared.short_class.ShortAssignment.{ShortAssignment}
use Rattle.mk_tree.specs.declared.short_class.ShortHeader.{ShortHeader}
use Rattle.mk_tree.specs.declared.short_class.ShortClass.{ShortClass}
use Rattle.mk_tree.specs.declared.short_class.ShortClass.TheVariants.{Endef, Body, Recipe, Opaque, Blank, Comment, Assign, DefineHead, If, Else, Endif, Directive, Rough, Header}

abbrev pub whole_assignment : flavor.Flavor → ShortAssignment → assignment.Assignment
whole_assignment f k = record {
  flavor = f;
  name = record { start = k.name_start; end = k.name_end };
  value = record { start = k.value_start; end = k.value_end };
  end = k.end;
}

abbrev pub whole_header : ShortHeader → header.Header
whole_header k = record {
  separator = k.separator;
  has_pattern = false;
  has_order_only = k.has_order_only;
  has_recipe = false;
  targets_end = k.targets_end;
  normal_start = k.normal_start;
  normal_end = k.normal_end;
  head_end = k.head_end;
}

abbrev pub whole_class : ShortClass → class.Class
whole_class Endef = variants.Endef
whole_class (Body n) = variants.Body n
whole_class Recipe = variants.Recipe
whole_class Opaque = variants.Opaque
whole_class Blank = variants.Blank
whole_class Comment = variants.Comment
whole_class (Assign f k) = variants.Assign (whole_assignment f k) None
whole_class (DefineHead b) = variants.DefineHead b
whole_class If = variants.If
whole_class Else = variants.Else
whole_class Endif = variants.Endif
whole_class Directive = variants.Directive
whole_class Rough = variants.Rough
whole_class (Header k) = variants.Header (whole_header k)

-- ---- which classes are not short

-- the largest offset of an assignment
abbrev pub largest_offset : assignment.Assignment → ℕ
largest_offset a =
    max a.name.start (max a.name.end (max a.value.start (max a.value.end a.end)))

-- the largest offset of a header
abbrev largest_offset_of_header : header.Header → ℕ
largest_offset_of_header h = max h.targets_end (max h.normal_start (max h.normal_end h.head_end))

-- a header with a pattern, with an inline recipe, or with an offset of more than 8 bits
abbrev pub IsLongHeader : header.Header → Type 0
IsLongHeader h =
    (h.has_pattern ≡ true) ⊎ ((h.has_recipe ≡ true) ⊎ (2 ^ 8 ≤ largest_offset_of_header h))

-- a class that is not short
abbrev pub IsLong : class.Class → Type 0
IsLong (variants.Assign a None) = 2 ^ 8 ≤ largest_offset a
IsLong (variants.Assign a (Some prefix)) = ⊤
IsLong (variants.TargetAssign t) = ⊤
IsLong (variants.Header h) = IsLongHeader h
IsLong k = ⊥
