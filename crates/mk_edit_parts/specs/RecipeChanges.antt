-- Recipe lines with a text in the place of each occurrence of another.
-- Told in docs/ARCHITECTURE.md, "An edit's way, from Edit to moved lines".
use Rattle.std.specs.Prelude.{ℕ, ◌-◌, ◌&&◌, Bool, List, length, slice_range}
use Rattle.std.specs.Str.{bytes_eq}
use Rattle.memchr.specs.Find.{matches}
use Rattle.mk_lines.specs.PhysicalLines.{without_line_end}
use Rattle.mk_lines.specs.declared.split.Span.{Span}
use Rattle.mk_tree.specs.LocatedLines.{LocatedLine}
use Rattle.mk_edit_language.specs.EachLine.{recipe_text}
use Rattle.mk_edit_parts.specs.LineChangePlaces.{text_places}
use Rattle.mk_edit_parts.specs.RecipeWalks.{is_recipe_located}

-- the ranges of each occurrence of a text in a line, after its first byte and up to its line end
abbrev pub recipe_ranges : (from line : List ℕ) → List Span
recipe_ranges f l = text_places 1 (length f) (matches (recipe_text l) f 0)

-- how many bytes the line end of a line has
abbrev pub line_end_length : (line : List ℕ) → ℕ
line_end_length l = length l - length (without_line_end l)

-- the text that a recipe line is said to have which was made of an old one: the bytes between the first
-- one and the old line end
abbrev pub stated_text : (old new : List ℕ) → List ℕ
stated_text o n = slice_range n 1 (length n - line_end_length o)

-- whether a line that was made of an old one is a recipe line, and has this text
abbrev pub reads_as_stated : (old : List ℕ) → (new : LocatedLine) → Bool
reads_as_stated o l =
    is_recipe_located l.class && bytes_eq (recipe_text l.bytes) (stated_text o l.bytes)
