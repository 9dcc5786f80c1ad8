-- Laws of lines, cells, units and words, each the contract of a public function.
-- Told in docs/PROOFS.md, "Reading a makefile".
use Rattle.std.specs.Prelude.{◌≡◌, ℕ, List, [], ◌∷◌, ◌++◌, map, true, not, take, drop}
use Rattle.mk_lines.specs.Lists.{concat}
use Rattle.mk_lines.specs.PhysicalLines.{line_end, line_end_bytes, without_line_end, file_line_end}
use Rattle.mk_lines.specs.LogicalLines.{logical_lines, EndsWhereFollowed}
use Rattle.mk_lines.specs.Cells.{joined_byte, joined_text, raw_text, line_cells, NoLineEnds}
use Rattle.mk_lines.specs.Units.{units, is_closed}
use Rattle.mk_lines.specs.FirstUnit.{first_unit, after_first_unit, leaves_open}
use Rattle.mk_lines.specs.Ranges.{text_at, line_ranges, unit_ranges, word_ranges, raw_offset}
use Rattle.mk_lines.specs.Words.{tokens, token_units, AreTokens, words}

-- ---- lines

-- the logical lines of a text, joined, are the text
abbrev pub LinesJoined : Type 0
LinesJoined = (text : List ℕ) → concat (logical_lines text) ≡ text

-- each logical line is, by itself, one logical line
abbrev pub LinesAreSingle : Type 0
LinesAreSingle = (text line : List ℕ) (above below : List (List ℕ))
    → logical_lines text ≡ above ++ line ∷ below → logical_lines line ≡ line ∷ []

-- Logical lines are local: if a text replaces a run of lines, the lines above and below stay, and
-- the lines of the text stand between them. If lines stand below, the text has to end a line. If
-- the run is empty and nothing stands below, the text is put at the end, and what stands above it
-- has to end a line.
abbrev pub LinesAreLocal : Type 0
LinesAreLocal = (text new : List ℕ) (above run below : List (List ℕ))
    → logical_lines text ≡ above ++ (run ++ below)
    → (run ++ below ≡ [] → EndsWhereFollowed (concat above) (logical_lines new))
    → EndsWhereFollowed new below
    → logical_lines (concat above ++ (new ++ concat below)) ≡ above ++ (logical_lines new ++ below)

-- The line end of a text's new lines is the same as that of its first logical line taken alone. In
-- the empty text it is LF.
abbrev pub FileEndsAsFirstLine : Type 0
FileEndsAsFirstLine = (text first : List ℕ) (rest : List (List ℕ))
    → logical_lines text ≡ first ∷ rest → file_line_end text ≡ file_line_end first

-- ---- cells

-- a line is the raw bytes of its cells and then its line end
abbrev pub CellsJoined : Type 0
CellsJoined = (line : List ℕ)
    → (raw_text (line_cells line) ≡ without_line_end line)
    × (raw_text (line_cells line) ++ line_end_bytes (line_end line) ≡ line)

-- the cells of a logical line are bytes and folds: its text has no line end except in its folds
abbrev pub CellsAreBytesOrFolds : Type 0
CellsAreBytesOrFolds =
    (line : List ℕ) → logical_lines line ≡ line ∷ [] → NoLineEnds (line_cells line)

-- ---- units

-- the units of a text, joined, are the text
abbrev pub UnitsJoined : Type 0
UnitsJoined = (text : List ℕ) → concat (units (λ b. b) text) ≡ text

-- the units of a text are its first unit and then those of what follows it; the empty text has none
abbrev pub UnitsAreFirstUnits : Type 0
UnitsAreFirstUnits =
    (units (λ b. b) [] ≡ [])
    × ((b : ℕ) (text : List ℕ)
    → units (λ b. b) (b ∷ text)
    ≡ first_unit (λ b. b) (b ∷ text)
    ∷ units (λ b. b) (after_first_unit (λ b. b) (b ∷ text)))

-- a text is closed if no unit is a lone dollar or an unclosed reference and the last unit is not a
-- lone backslash
abbrev pub ClosedByUnits : Type 0
ClosedByUnits =
    (text : List ℕ) → is_closed (λ b. b) text ≡ not (leaves_open (λ b. b) (units (λ b. b) text))

-- the units of a closed text followed by any text are its own units and then the units of that text
abbrev pub UnitsOfClosed : Type 0
UnitsOfClosed = (closed text : List ℕ) → is_closed (λ b. b) closed ≡ true
    → units (λ b. b) (closed ++ text) ≡ units (λ b. b) closed ++ units (λ b. b) text

-- the units and the words of a line's joined text are those of its cells
abbrev pub JoinedUnits : Type 0
JoinedUnits = (line : List ℕ) →
    (units (λ b. b) (joined_text (line_cells line))
    ≡ map joined_text (units joined_byte (line_cells line)))
    × (words (λ b. b) (joined_text (line_cells line))
    ≡ map joined_text (words joined_byte (line_cells line)))

-- ---- words

-- Words are the maximal runs of units that are not single blanks: the words and gaps of units, in
-- order, are the units; a gap is a single blank, a word has at least one unit and no such blank,
-- and no word stands directly after another.
abbrev pub WordsAreRuns : Type 0
WordsAreRuns = (us : List (List ℕ))
    → (token_units (tokens (λ b. b) us) ≡ us) × AreTokens (λ b. b) (tokens (λ b. b) us)

-- ---- ranges

-- the ranges of a text's lines, units and words cut them out of it
abbrev pub RangesCut : Type 0
RangesCut = (text : List ℕ) →
    (map (text_at text) (line_ranges text) ≡ logical_lines text)
    × (map (text_at text) (unit_ranges text) ≡ units (λ b. b) text)
    × (map (text_at text) (word_ranges text) ≡ words (λ b. b) text)

-- a raw offset cuts a line, without its line end, in two: the raw bytes of the cells before the
-- offset, and those of the other cells
abbrev pub RawOffsetsCut : Type 0
RawOffsetsCut = (line : List ℕ) (offset : ℕ) →
    (take (raw_offset (line_cells line) offset) (without_line_end line)
    ≡ raw_text (take offset (line_cells line)))
    × (drop (raw_offset (line_cells line) offset) (without_line_end line)
    ≡ raw_text (drop offset (line_cells line)))
