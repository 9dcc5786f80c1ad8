-- The fields of a line of a script, and how they are written in it.
-- Told in docs/EDITS.md, "The script".
use Rattle.std.specs.Prelude.{◌≡◌, ℕ, Bool, true, false, not, ◌==◌, ◌||◌, if◌then◌else◌, List, [], ◌∷◌, ◌++◌}
use Rattle.mk_lines.specs.Lists.{Each}
use Rattle.mk_lines.specs.Bytes.{is_blank_byte}

-- ---- one field

-- a quote, or a backslash
abbrev pub is_special : ℕ → Bool
is_special b = b == 34 || b == 92

-- a field with a backslash before each quote and each backslash
abbrev pub escaped : List ℕ → List ℕ
escaped [] = []
escaped (b ∷ field) = if is_special b then 92 ∷ b ∷ escaped field else b ∷ escaped field

-- a field between quotes
abbrev pub quoted : List ℕ → List ℕ
quoted field = 34 ∷ (escaped field ++ 34 ∷ [])

-- a field that may stand as it is: it is not empty, has no blank and does not begin with a quote
abbrev pub IsBare : List ℕ → Type 0
IsBare [] = ⊥
IsBare (b ∷ field) = ((b == 34) ≡ false) × Each (λ c. not (is_blank_byte c)) (b ∷ field)

-- a field of a line: it is written as it is, or between quotes
pub data Field : Type 0 where
  Bare : List ℕ → Field
  Quoted : List ℕ → Field

-- its text
abbrev pub text : Field → List ℕ
text (Bare t) = t
text (Quoted t) = t

-- how a field is written
abbrev pub IsWritten : (written : List ℕ) → Field → Type 0
IsWritten written (Bare t) = IsBare t × (written ≡ t)
IsWritten written (Quoted t) = written ≡ quoted t

-- ---- the fields of a line

-- a line is empty or begins with a blank
abbrev pub EndsField : List ℕ → Type 0
EndsField [] = Unit {0}
EndsField (b ∷ line) = is_blank_byte b ≡ true

-- A line is blanks, a written field, and a rest that is empty or begins with a blank.
pub record BeginsWithField (line : List ℕ) (field : Field) (rest : List ℕ) : Type 0 where
  pub blanks : List ℕ
  pub written : List ℕ
  pub are_blanks : Each is_blank_byte blanks
  pub is_written : IsWritten written field
  pub ends : EndsField rest
  pub line_is : line ≡ blanks ++ (written ++ rest)

-- A line has these fields, in this order, with blanks between them, and perhaps before and after
-- them.
abbrev pub HasFields : (line : List ℕ) → (fields : List Field) → Type 0
HasFields line [] = Each is_blank_byte line
HasFields line (field ∷ fields) =
    (rest : List ℕ) × BeginsWithField line field rest × HasFields rest fields
