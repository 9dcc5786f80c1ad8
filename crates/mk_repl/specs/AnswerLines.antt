-- The lines of an answer, and some lines of a text.
-- Told in docs/PROTOCOL.md, "Answers".
use Rattle.std.specs.Prelude.{ℕ, ◌-◌, ◌==◌, if◌then◌else◌, Bool, false, List, ◌++◌, length, take, drop, Option, Some, None, codes, slice_get}
use Rattle.std.specs.List.{flat_map}
use Rattle.mk_lines.specs.Lists.{concat}
use Rattle.mk_lines.specs.PhysicalLines.{physical_lines}

-- whether a byte that may be there is a line feed
abbrev is_line_feed : Option ℕ → Bool
is_line_feed None = false
is_line_feed (Some b) = b == 10

-- a line of an answer: behind `| `, or, if it has no line feed, behind `|~ ` and with one
abbrev pub answer_line : List ℕ → List ℕ
answer_line line =
    if is_line_feed (slice_get line (length line - 1)) then codes "| " ++ line
    else codes "|~ " ++ (line ++ codes "\n")

-- a text as the lines of an answer
abbrev pub answer_lines : List ℕ → List ℕ
answer_lines text = flat_map answer_line (physical_lines text)

-- the lines of a text from one number to another, of which the first line has 1
abbrev pub lines_between : (from to : ℕ) → List ℕ → List ℕ
lines_between from to text =
    concat (take (to - (from - 1)) (drop (from - 1) (physical_lines text)))
