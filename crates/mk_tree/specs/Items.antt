-- What lines read as: the items of a makefile. An edit changes its own items and keeps the others.
-- Told in docs/ARCHITECTURE.md, "Where things are".
use Rattle.std.specs.Prelude.{ℕ, List, [], ◌∷◌, ◌++◌, drop, Option, Some, None}
use Rattle.mk_lines.specs.Lists.{concat}
use Rattle.mk_lines.specs.PhysicalLines.{without_line_end}
use Rattle.mk_lines.specs.Cells.{Cell, joined_byte, raw_text}
use Rattle.mk_class.specs.Texts.{unit_text, word_texts}
use Rattle.mk_class.specs.Assignments.{Assignment}
use Rattle.mk_class.specs.Headers.{inline_recipe}
use Rattle.mk_class.specs.Headers
use Rattle.mk_class.specs.Classes.{Class}
use Rattle.mk_class.specs.ClassedLines.{ClassedLine}
use Rattle.mk_class.specs.declared.assignment.Flavor.{Flavor}
use Rattle.mk_class.specs.declared.assignment.Modifier.{Modifier}
use Rattle.mk_class.specs.declared.rule.Separator.{Separator}

-- what an assignment reads as
pub data Assigned : Type 0 where
  Sets : List Modifier → (name : List ℕ) → Flavor → (value : List ℕ) → Assigned

-- What a line reads as. An assignment: its parts. An assignment for targets: the targets and the
-- separator too. A header: the targets, the separator, the pattern, the normal and the order-only
-- prerequisites, and the inline recipe. A recipe line: the text after its first byte. Any other
-- line: its class and its text. Texts have no line end.
pub data Item : Type 0 where
  Assign : Assigned → Item
  TargetAssign : (targets : List (List ℕ)) → Separator → Assigned → Item
  Header : (targets : List (List ℕ)) → Separator → (pattern normal order_only : List (List ℕ))
      → Option (List ℕ) → Item
  Recipe : List ℕ → Item
  Endef : List ℕ → Item
  Body : List ℕ → Item
  Opaque : List ℕ → Item
  DefineHead : List ℕ → Item
  If : List ℕ → Item
  Else : List ℕ → Item
  Endif : List ℕ → Item
  Directive : List ℕ → Item
  Rough : List ℕ → Item

-- the parts of an assignment that are read
abbrev pub assigned : Assignment Cell → Assigned
assigned a =
    Sets a.modifiers (unit_text joined_byte a.name) a.flavor (unit_text joined_byte a.value)

-- the raw bytes of an inline recipe, if there is one
abbrev pub raw_units : Option (List (List Cell)) → Option (List ℕ)
raw_units None = None
raw_units (Some us) = Some (raw_text (concat us))

-- the item of a header
abbrev pub header_item : Headers.Header Cell → Item
header_item h =
    Header (word_texts joined_byte h.targets) h.separator (word_texts joined_byte h.pattern)
    (word_texts joined_byte h.normal) (word_texts joined_byte h.order_only)
    (raw_units (inline_recipe joined_byte h))

-- the item of a line; no item if the line is blank or a comment
abbrev pub items_of_line : Class Cell → List ℕ → List Item
items_of_line Class.Blank l = []
items_of_line Class.Comment l = []
items_of_line (Class.Assign a p) l = Assign (assigned a) ∷ []
items_of_line (Class.TargetAssign t) l =
    TargetAssign (word_texts joined_byte t.targets) t.separator (assigned t.assigned) ∷ []
items_of_line (Class.Header h) l = header_item h ∷ []
items_of_line Class.Recipe l = Recipe (drop 1 (without_line_end l)) ∷ []
items_of_line Class.Endef l = Endef (without_line_end l) ∷ []
items_of_line (Class.Body n) l = Body (without_line_end l) ∷ []
items_of_line Class.Opaque l = Opaque (without_line_end l) ∷ []
items_of_line (Class.DefineHead p) l = DefineHead (without_line_end l) ∷ []
items_of_line Class.If l = If (without_line_end l) ∷ []
items_of_line Class.Else l = Else (without_line_end l) ∷ []
items_of_line Class.Endif l = Endif (without_line_end l) ∷ []
items_of_line Class.Directive l = Directive (without_line_end l) ∷ []
items_of_line Class.Rough l = Rough (without_line_end l) ∷ []

-- the items of lines
abbrev pub items : List ClassedLine → List Item
items [] = []
items (l ∷ ls) = items_of_line l.class l.bytes ++ items ls
