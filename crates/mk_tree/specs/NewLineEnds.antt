-- New lines: their line end, and the line end that a last line gets if a new line is put after it.
-- Told in docs/EDITS.md, "Addresses".
use Rattle.std.specs.Prelude.{ℕ, if◌then◌else◌, Bool, ◌&&◌, List, [], ◌∷◌, ◌++◌}
use Rattle.mk_lines.specs.PhysicalLines.{line_end, line_end_bytes}
use Rattle.mk_lines.specs.LogicalLines.{has_no_line_end}
use Rattle.mk_lines.specs.declared.ends.End.{End}
use Rattle.mk_class.specs.ListTests.{is_empty, last_passes}
use Rattle.mk_class.specs.ClassedLines.{ClassedLine}

-- whether a line has no line end
abbrev pub lacks_line_end : ClassedLine → Bool
lacks_line_end l = has_no_line_end (line_end l.bytes)

-- a line with a line end put after it
abbrev pub with_line_end : End → ClassedLine → ClassedLine
with_line_end e l = record l { bytes = l.bytes ++ line_end_bytes e }

-- the line with a line end, which it gets if it has none
abbrev pub line_ended : End → ClassedLine → ClassedLine
line_ended e l = if lacks_line_end l then with_line_end e l else l

-- the lines; the last of them gets a line end if it has none
abbrev pub last_ended : End → List ClassedLine → List ClassedLine
last_ended e [] = []
last_ended e (l ∷ []) = line_ended e l ∷ []
last_ended e (l ∷ k ∷ ls) = l ∷ last_ended e (k ∷ ls)

-- The lines above a new line: if no line is below it, the last of them gets a line end if it has
-- none.
abbrev pub above_ended : End → (above below : List ClassedLine) → List ClassedLine
above_ended e above [] = last_ended e above
above_ended e above (l ∷ below) = above

-- the bytes of the line end that the last line gets; none if it gets no line end
abbrev pub missing_line_end : End → (above below : List ClassedLine) → List ℕ
missing_line_end e above below =
    if is_empty below && last_passes lacks_line_end above then line_end_bytes e else []
