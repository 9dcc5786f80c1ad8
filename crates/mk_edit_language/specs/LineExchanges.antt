-- Whole lines put in, taken out or exchanged: their bytes, and the span.
-- Told in docs/PROOFS.md, "An edit".
use Rattle.std.specs.Prelude.{ℕ, ◌+◌, if◌then◌else◌, not, ◌&&◌, List, [], ◌∷◌, ◌++◌, length}
use Rattle.mk_lines.specs.PhysicalLines.{line_end, line_end_bytes, file_line_end}
use Rattle.mk_lines.specs.LogicalLines.{logical_lines}
use Rattle.mk_lines.specs.declared.ends.End.{End}
use Rattle.mk_lines.specs.declared.ends.End.TheVariants as ends
use Rattle.mk_lines.specs.Pieces.{Replacement}
use Rattle.mk_class.specs.ListTests.{is_empty, last_passes}
use Rattle.mk_class.specs.ClassedLines.{ClassedLine, classed}
use Rattle.mk_tree.specs.Documents.{text_of, context_of}
use Rattle.mk_tree.specs.NewLineEnds.{lacks_line_end, missing_line_end}
use Rattle.mk_edit_language.specs.Stretches.{Stretch}

-- lines with their line ends: that of each but the last, and that of the last
abbrev pub with_line_ends : (each last : End) → List (List ℕ) → List ℕ
with_line_ends e z [] = []
with_line_ends e z (t ∷ []) = t ++ line_end_bytes z
with_line_ends e z (t ∷ u ∷ ts) = t ++ (line_end_bytes e ++ with_line_ends e z (u ∷ ts))

-- the line end of the last of some lines; if it has none, or there is no line, this one
abbrev pub last_line_end : End → List ClassedLine → End
last_line_end e [] = e
last_line_end e (l ∷ []) = if lacks_line_end l then e else line_end l.bytes
last_line_end e (l ∷ k ∷ ls) = last_line_end e (k ∷ ls)

-- the line end of the new lines: that of the last line that goes, or the file's
abbrev block_line_end : (text : List ℕ) → Stretch → End
block_line_end t s = last_line_end (file_line_end t) s.lines

-- the line end of the last new line: none where the last line that goes has none, unless the new
-- line is empty
abbrev final_line_end : (text : List ℕ) → (new : List (List ℕ)) → Stretch → End
final_line_end t ts s =
    if last_passes lacks_line_end s.lines && not (last_passes is_empty ts)
    then ends.None
    else block_line_end t s

-- the bytes of the new lines
abbrev pub block_text : (text : List ℕ) → (new : List (List ℕ)) → Stretch → List ℕ
block_text t ts s = with_line_ends (block_line_end t s) (final_line_end t ts s) ts

-- the new lines with their classes, in the context at the site
abbrev pub new_lines : (text : List ℕ) → (new : List (List ℕ)) → Stretch → List ClassedLine
new_lines t ts s = classed (context_of s.above) (logical_lines (block_text t ts s))

-- the span: the lines that go, with their line ends; the new bytes are the line end that the last
-- line lacks, if new lines go behind it and it lacks one, and the new lines
abbrev pub exchange_span : (text : List ℕ) → (new : List (List ℕ)) → Stretch → List Replacement
exchange_span t ts s =
    let at = length (text_of s.above) in
    record {
      start = at;
      end = at + length (text_of s.lines);
      new = missing_line_end (file_line_end t) s.above s.below ++ block_text t ts s;
    } ∷ []

-- how many lines are new, whatever their line ends
abbrev pub line_cost : (new : List (List ℕ)) → ℕ
line_cost ts = length (logical_lines (with_line_ends ends.Lf ends.Lf ts))
