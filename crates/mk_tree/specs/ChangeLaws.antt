-- Laws of texts that change, each the contract of a public function.
-- Told in docs/PROOFS.md, "Reading a makefile".
use Rattle.std.specs.Prelude.{◌≡◌, ℕ, ◌+◌, true, false, not, ◌&&◌, List, [], ◌∷◌, ◌++◌, length}
use Rattle.std.specs.List.{list_any}
use Rattle.mk_lines.specs.PhysicalLines.{line_end_bytes, file_line_end}
use Rattle.mk_lines.specs.LogicalLines.{logical_lines, is_open, EndsWhereFollowed}
use Rattle.mk_lines.specs.Pieces.{replaced}
use Rattle.mk_class.specs.ListTests.{is_empty, last_passes}
use Rattle.mk_class.specs.Arguments.{is_clean, is_backslash_byte}
use Rattle.mk_class.specs.Classes.{leaves_flag}
use Rattle.mk_class.specs.Contexts.{Context, start, context_after}
use Rattle.mk_class.specs.ClassedLines.{ClassedLine, classed, classed_lines, context_after_lines}
use Rattle.mk_tree.specs.Items.{items}
use Rattle.mk_tree.specs.Readings.{reading}
use Rattle.mk_tree.specs.LineTexts.{line_in, text_of, bytes_of, context_of}
use Rattle.mk_tree.specs.NewLineEnds.{missing_line_end, above_ended}
use Rattle.mk_tree.specs.EachReplaced.{ReplaceEach}
use Rattle.mk_tree.specs.Leaning.{AgreeButForFlag, leans}

-- ---- lines below a change

-- The leaning law. Two texts end in the same lines, whatever the lines above these are. If the open
-- defines, the open conditionals and the prefix directly above them are the same in both texts, and
-- the lines do not lean on the flags there, they have the same classes in both texts.
abbrev pub LinesBelowKeepTheirClasses : Type 0
LinesBelowKeepTheirClasses = (old new : List ℕ) (above above' below : List (List ℕ))
    → logical_lines old ≡ above ++ below → logical_lines new ≡ above' ++ below
    → AgreeButForFlag (context_of (classed start above)) (context_of (classed start above'))
    → leans (context_of (classed start above)).prefix (context_of (classed start above)).flag
    (context_of (classed start above')).flag
    (classed (context_of (classed start above)) below) ≡ false
    → (classed_lines old ≡ classed start above ++ classed (context_of (classed start above)) below)
    × (classed_lines new ≡ classed start above' ++ classed (context_of (classed start above)) below)

-- Contexts that agree in all except perhaps the flag agree so after any lines, and they are the
-- same after lines of which one sets the flag.
abbrev pub ContextsBelowAgree : Type 0
ContextsBelowAgree = (one other : Context) (lines : List ClassedLine) → AgreeButForFlag one other
    → AgreeButForFlag (context_after_lines one lines) (context_after_lines other lines)
    × (list_any (λ l. not (leaves_flag l.class)) lines ≡ true
    → context_after_lines one lines ≡ context_after_lines other lines)

-- ---- lines replaced, put in and taken out

-- A text replaces a run of lines; the text and the run may be empty. The lines above stay. The
-- lines of the text stand after them, with the classes that they have there. The lines below stay
-- if they do not lean on the flag. If lines are below, the text has to end a line. If the run is
-- empty and no line is below, and the text has lines, the lines above have to end a line.
abbrev pub RunsAreReplaced : Type 0
RunsAreReplaced = (text new : List ℕ) (above run below : List ClassedLine)
    → classed_lines text ≡ above ++ (run ++ below)
    → (run ++ below ≡ [] → EndsWhereFollowed (text_of above) (logical_lines new))
    → EndsWhereFollowed new (bytes_of below)
    → AgreeButForFlag (context_of (above ++ run))
    (context_of (above ++ classed (context_of above) (logical_lines new)))
    → leans (context_of (above ++ run)).prefix (context_of (above ++ run)).flag
    (context_of (above ++ classed (context_of above) (logical_lines new))).flag below
    ≡ false
    → (classed_lines (text_of above ++ (new ++ text_of below))
    ≡ above ++ (classed (context_of above) (logical_lines new) ++ below))
    × (reading (text_of above ++ (new ++ text_of below))
    ≡ items above ++ (items (classed (context_of above) (logical_lines new)) ++ items below))

-- Several lines, each replaced by one line, after which the context is the same, and which ends a
-- line if lines follow it: the lines above and below stay.
abbrev pub LinesAreReplacedEach : Type 0
LinesAreReplacedEach = (text : List ℕ) (above old below new : List ClassedLine)
    → classed_lines text ≡ above ++ (old ++ below) → ReplaceEach (context_of above) old new below
    → (classed_lines (text_of above ++ (text_of new ++ text_of below)) ≡ above ++ (new ++ below))
    × (reading (text_of above ++ (text_of new ++ text_of below))
    ≡ items above ++ (items new ++ items below))

-- the new line below the lines `above`: the bytes `new` with the file's line end
abbrev pub new_line_below : (text : List ℕ) → (above : List ClassedLine) → (new : List ℕ)
    → ClassedLine
new_line_below text above new =
    line_in (context_of above) (new ++ line_end_bytes (file_line_end text))

-- A new line with the file's line end, put at any place; at the end of the text only if the last
-- line is not open. It has no LF, CR or NUL, and its last byte is no backslash. The lines below
-- stay if they do not lean on the flag. The lines above stay, except that a last line without a
-- line end gets one; their items stay.
abbrev pub NewLinesStand : Type 0
NewLinesStand =
    (text new : List ℕ) (above below : List ClassedLine) → classed_lines text ≡ above ++ below
    → (is_empty below && last_passes (λ l. is_open l.bytes) above) ≡ false → is_clean new ≡ true
    → last_passes is_backslash_byte new ≡ false
    → AgreeButForFlag (context_of above)
    (context_after (context_of above) (new_line_below text above new).class)
    → leans (context_of above).prefix
    (context_after (context_of above) (new_line_below text above new).class).flag
    (context_of above).flag below ≡ false
    → (classed_lines (text_of above
    ++ ((missing_line_end (file_line_end text) above below
    ++ (new_line_below text above new).bytes) ++ text_of below))
    ≡ above_ended (file_line_end text) above below ++ new_line_below text above new ∷ below)
    × (items (above_ended (file_line_end text) above below) ≡ items above)

-- Bytes inside a line, replaced by their offsets in the text: the line begins at the length of the
-- text of the lines above it.
abbrev pub SpansStayInLines : Type 0
SpansStayInLines = (text : List ℕ) (above : List ClassedLine) (line : ClassedLine)
    (below : List ClassedLine) (before old after new : List ℕ)
    → classed_lines text ≡ above ++ line ∷ below
    → line.bytes ≡ before ++ (old ++ after)
    → replaced 0 text (record {
      start = length (text_of above) + length before;
      end = length (text_of above) + length before + length old;
      new = new;
    } ∷ [])
    ≡ text_of above ++ ((before ++ (new ++ after)) ++ text_of below)
