-- Lines that are moved: what each move does to the lines of a document, and which lines it fits.
-- Told in docs/ARCHITECTURE.md, "A patch".
use Rattle.std.specs.Prelude.{◌≡◌, ℕ, ◌+◌, ◌<◌, ◌≤◌, false, List, [], ◌∷◌, ◌++◌, length, take, drop}
use Rattle.mk_lines.specs.Limits.{max_text}
use Rattle.mk_lines.specs.PhysicalLines.{without_line_end}
use Rattle.mk_tree.specs.LocatedLines.{LocatedLine, AreConditionalsFit, bytes_of_line, is_conditional_located, last_line, size_of, with_last_bytes}

-- ---- one move

-- a move of one line, or of the line end of the last line
pub data Move : Type 0 where
  -- a line is put before the line at an index, or at the end
  PutIn : (at : ℕ) → (line : LocatedLine) → Move
  -- the line at an index is taken out
  TakeOut : (at : ℕ) → Move
  -- a line is put in the place of another
  Exchange : (at : ℕ) → (line : LocatedLine) → Move
  -- other bytes are put in the place of the last line's bytes; its class stays
  SwapEnd : (bytes : List ℕ) → Move

-- lines with another line in the place of the one at `at`
abbrev pub exchanged : (at : ℕ) → LocatedLine → List LocatedLine → List LocatedLine
exchanged at l ls = take at ls ++ l ∷ drop (at + 1) ls

-- the lines after a move
abbrev pub after_move : Move → List LocatedLine → List LocatedLine
after_move (PutIn at l) ls = take at ls ++ l ∷ drop at ls
after_move (TakeOut at) ls = take at ls ++ drop (at + 1) ls
after_move (Exchange at l) ls = exchanged at l ls
after_move (SwapEnd bytes) ls = with_last_bytes bytes ls

-- The lines that a move fits: its index is one of theirs, and the lines after it have at most
-- 16,777,216 bytes. The new bytes of a last line are not empty, and equal the old ones except for
-- the line end.
abbrev pub FitsMove : Move → List LocatedLine → Type 0
FitsMove (PutIn at l) ls = (at ≤ length ls) × (size_of ls + length l.bytes ≤ max_text)
FitsMove (TakeOut at) ls = at < length ls
FitsMove (Exchange at l) ls = (at < length ls) × (size_of (exchanged at l ls) ≤ max_text)
FitsMove (SwapEnd bytes) ls =
    (0 < length ls)
    × (0 < length bytes)
    × (without_line_end bytes ≡ without_line_end (bytes_of_line (last_line ls)))
    × (size_of (with_last_bytes bytes ls) ≤ max_text)

-- how many lines a move holds: a line that goes in counts, and so do the last line's new bytes
abbrev pub held_by_move : Move → ℕ
held_by_move (PutIn at l) = 1
held_by_move (TakeOut at) = 0
held_by_move (Exchange at l) = 1
held_by_move (SwapEnd bytes) = 1

-- how many lines a move takes out: a line that comes out counts, and so do the last line's old
-- bytes
abbrev pub taken_by_move : Move → ℕ
taken_by_move (PutIn at l) = 0
taken_by_move (TakeOut at) = 1
taken_by_move (Exchange at l) = 1
taken_by_move (SwapEnd bytes) = 1

-- ---- several moves, the first of which is made first

-- the lines after moves
abbrev pub after_moves : List Move → List LocatedLine → List LocatedLine
after_moves [] ls = ls
after_moves (m ∷ ms) ls = after_moves ms (after_move m ls)

-- each move fits the lines to which those before it lead
abbrev pub FitInTurn : List Move → List LocatedLine → Type 0
FitInTurn [] ls = Unit {0}
FitInTurn (m ∷ ms) ls = FitsMove m ls × FitInTurn ms (after_move m ls)

-- The lines that moves fit: each move fits in its turn, and if the conditionals fit before the first
-- move, they fit after the last. Between two moves they need not.
pub record FitMoves (ms : List Move) (ls : List LocatedLine) : Type 0 where
  pub in_turn : FitInTurn ms ls
  pub conditionals : AreConditionalsFit 0 ls → AreConditionalsFit 0 (after_moves ms ls)

-- how many lines moves hold
abbrev pub held_by : List Move → ℕ
held_by [] = 0
held_by (m ∷ ms) = held_by_move m + held_by ms

-- how many lines moves take out
abbrev pub taken_by : List Move → ℕ
taken_by [] = 0
taken_by (m ∷ ms) = taken_by_move m + taken_by ms

-- a line is of no conditional: to move such lines leaves conditionals that fit
abbrev pub IsPlain : LocatedLine → Type 0
IsPlain l = is_conditional_located l.class ≡ false

-- moves, and how many moves there may be
pub record MovesWithRoom : Type 0 where
  pub moves : List Move
  pub room : ℕ
