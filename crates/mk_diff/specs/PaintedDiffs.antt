-- A diff in colours, as a terminal shows it: the escape sequences are those of ECMA-48, "SGR".
-- Told in docs/EDITS.md, "Running a script".
use Rattle.std.specs.Prelude.{ℕ, Bool, true, false, ◌==◌, if◌then◌else◌, List, [], ◌∷◌, ◌++◌, take, drop, Option, Some, None, codes}
use Rattle.std.specs.List.{flat_map}
use Rattle.mk_lines.specs.PhysicalLines.{line_end, line_end_bytes, physical_lines, without_line_end}

-- the sequence of this number
abbrev escape : (number : List ℕ) → List ℕ
escape number = 27 ∷ 91 ∷ (number ++ codes "m")

-- a line in a colour, which ends before the line end
abbrev pub painted_by : (color line : List ℕ) → List ℕ
painted_by color line =
    color ++ (without_line_end line ++ (escape (codes "0") ++ line_end_bytes (line_end line)))

-- the colour of a line below the names: that of an added line is green, that of a removed one is
-- red, and that of the numbers of a hunk cyan
abbrev pub color_of : (line : List ℕ) → Option (List ℕ)
color_of [] = None
color_of (b ∷ t) =
    if b == 43 then Some (escape (codes "32")) else
    if b == 45 then Some (escape (codes "31")) else
    if b == 64 then Some (escape (codes "36")) else
    None

-- a line in its colour, if it has one
abbrev colored : Option (List ℕ) → (line : List ℕ) → List ℕ
colored None line = line
colored (Some color) line = painted_by color line

abbrev pub painted_line : (line : List ℕ) → List ℕ
painted_line line = colored (color_of line) line

abbrev pub bold_line : (line : List ℕ) → List ℕ
bold_line line = painted_by (escape (codes "1")) line

-- a diff in colours: its two lines of names are bold
abbrev pub painted_diff : (text : List ℕ) → List ℕ
painted_diff text =
    flat_map bold_line (take 2 (physical_lines text))
    ++ flat_map painted_line (drop 2 (physical_lines text))

-- a diff as it is shown: in colours, or as it is
abbrev pub shown_diff : (has_color : Bool) → (text : List ℕ) → List ℕ
shown_diff true text = painted_diff text
shown_diff false text = text
