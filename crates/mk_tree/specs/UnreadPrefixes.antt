-- Whether a line sets the recipe prefix in a way that is not read, by the offsets of its parts; and
-- what is known where the lines of a document end.
-- Told in docs/ARCHITECTURE.md, "The document".
use Rattle.std.specs.Prelude.{not, ◌&&◌, is_some, ◌≡◌, ℕ, Bool, false, List}
use Rattle.std.specs.List.{list_any}
use Rattle.mk_lines.specs.Cells.{joined_byte}
use Rattle.mk_lines.specs.Ranges.{text_at}
use Rattle.mk_class.specs.RecipePrefix.{is_prefix_name}
use Rattle.mk_class.specs.Contexts.{Context, start}
use Rattle.mk_class.specs.ClassTable.{class_of}
use Rattle.mk_class.specs.LocatedClasses.{located_class}
use Rattle.mk_class.specs.declared.class.Class as class
use Rattle.mk_class.specs.declared.class.Class.TheVariants as variants
use Rattle.mk_tree.specs.LocatedLines.{LocatedLine, context_after_located_lines, text_of_line}
use Rattle.mk_tree.specs.declared.end.DocEnd.{DocEnd}

-- a line with the class that it has in some context
pub record IsClassed (l : LocatedLine) : Type 0 where
  pub context : Context
  pub class_is : l.class ≡ located_class joined_byte (class_of context l.bytes)

-- whether a line of this joined text and class sets the recipe prefix in a way that is not read
abbrev pub is_unread_in : (text : List ℕ) → class.Class → Bool
is_unread_in t (variants.Assign a p) = not (is_some p) && is_prefix_name (text_at t a.name)
is_unread_in t (variants.DefineHead p) = p
is_unread_in t k = false

abbrev pub is_unread_located : LocatedLine → Bool
is_unread_located l = is_unread_in (text_of_line l) l.class

-- Where some lines end: the context after them, and whether one of them sets the recipe prefix in a
-- way that is not read.
pub record IsEndOf (ls : List LocatedLine) (end : DocEnd) : Type 0 where
  pub context_is : end.context ≡ context_after_located_lines start ls
  pub unread_is : end.has_unread_prefix ≡ list_any is_unread_located ls
