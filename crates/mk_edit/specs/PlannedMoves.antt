-- The moves of an edit of one place, by the place and the bytes of its new line.
-- Told in docs/ARCHITECTURE.md, "An edit's way, from Edit to moved lines".
use Rattle.std.specs.Prelude.{◌≡◌, ℕ, ◌+◌, ◌<◌, ◌≤◌, ◌==◌, ◌&&◌, Bool, true, false, List, [], ◌∷◌, ◌++◌, length, take, drop, Option, Some, None}
use Rattle.mk_lines.specs.Limits.{max_text}
use Rattle.mk_lines.specs.PhysicalLines.{line_end, line_end_bytes, file_line_end}
use Rattle.mk_lines.specs.LogicalLines.{logical_lines, has_no_line_end}
use Rattle.mk_class.specs.ClassedLines.{ClassedLine, classed_lines}
use Rattle.mk_tree.specs.LineTexts.{context_of, line_in}
use Rattle.mk_tree.specs.LocatedLines.{LocatedLine, located_line, located_text, size_of, bytes_of_line, last_line}
use Rattle.mk_edit_language.specs.Stretches.{Stretch}
use Rattle.mk_patch.specs.Moves.{Move, PutIn, Exchange, SwapEnd, IsPlain}

-- a line of these bytes, with its class in the context of the lines before a place
abbrev pub line_read_at : List LocatedLine → (at : ℕ) → (bytes : List ℕ) → LocatedLine
line_read_at ls at bytes =
    located_line (line_in (context_of (take at (classed_lines (located_text ls)))) bytes)

-- `count` lines from an index on, with the lines above and below them
abbrev pub stretch_at : List ClassedLine → (at count : ℕ) → Stretch
stretch_at ls at count =
    record { above = take at ls; lines = take count (drop at ls); below = drop (at + count) ls }

-- these bytes are one line, of no conditional, if they are put at this place
pub record IsLineAt (ls : List LocatedLine) (at : ℕ) (bytes : List ℕ) : Type 0 where
  pub one : logical_lines bytes ≡ bytes ∷ []
  pub plain : IsPlain (line_read_at ls at bytes)

-- ---- a line in the place of another

abbrev pub replacing_moves : List LocatedLine → (at : ℕ) → (bytes : List ℕ) → List Move
replacing_moves ls at bytes = Exchange at (line_read_at ls at bytes) ∷ []

-- a line of these bytes can be put in the place of the line at `at`
pub record CanReplace (ls : List LocatedLine) (at : ℕ) (bytes : List ℕ) : Type 0 where
  pub in_range : at < length ls
  pub line : IsLineAt ls at bytes

-- ---- a new line

-- whether a line has no line end; false if there is no line
abbrev pub is_unended : Option LocatedLine → Bool
is_unended None = false
is_unended (Some l) = has_no_line_end (line_end l.bytes)

-- whether a line that is put in at a place follows a last line that has no line end
abbrev pub follows_unended : List LocatedLine → (at : ℕ) → Bool
follows_unended ls at = (at == length ls) && is_unended (last_line ls)

-- the bytes of the last line, with the file's line end after them
abbrev pub last_bytes_ended : List LocatedLine → List ℕ
last_bytes_ended ls =
    bytes_of_line (last_line ls) ++ line_end_bytes (file_line_end (located_text ls))

-- the move by which a last line gets its line end, if it is to get one
abbrev pub ending_moves : Bool → List LocatedLine → List Move
ending_moves true ls = SwapEnd (last_bytes_ended ls) ∷ []
ending_moves false ls = []

-- A line is put before the line at a place, or at the end. If it follows a last line without a line
-- end, that line first gets the file's line end.
abbrev pub inserting_moves : List LocatedLine → (at : ℕ) → (bytes : List ℕ) → List Move
inserting_moves ls at bytes =
    ending_moves (follows_unended ls at) ls ++ PutIn at (line_read_at ls at bytes) ∷ []

-- a line of these bytes can be put in at a place
pub record CanInsert (ls : List LocatedLine) (at : ℕ) (bytes : List ℕ) : Type 0 where
  pub in_range : at ≤ length ls
  pub line : IsLineAt ls at bytes
  pub fits : size_of ls + length bytes ≤ max_text
