-- Which of the bytes that tell lines apart a text has, as marks.
use Rattle.std.specs.Prelude.{◌≡◌, ℕ, ◌==◌, if◌then◌else◌, Bool, false, List, [], ◌∷◌, All}
use Rattle.std.specs.List.{list_any}
use Rattle.std.specs.Int.{bit_at}
use Rattle.memchr.specs.Find.{is_byte}
use Rattle.mk_class.specs.declared.marks.Marks.{Marks}

-- the bytes that tell lines apart: `#`, `=`, `;`, `:`, `|`, `$` and the backslash
abbrev telling_bytes : List ℕ
telling_bytes = 35 ∷ 61 ∷ 59 ∷ 58 ∷ 124 ∷ 36 ∷ 92 ∷ []

-- the place of the bit that marks one of these bytes
abbrev place : ℕ → ℕ
place b =
    if b == 35 then 0 else
    if b == 61 then 1 else
    if b == 59 then 2 else
    if b == 58 then 3 else
    if b == 124 then 4 else
    if b == 36 then 5 else
    6

-- the bits that a byte sets: the one at its place, or none
abbrev pub bits_of : ℕ → ℕ
bits_of b =
    if b == 35 then 1 else
    if b == 61 then 2 else
    if b == 59 then 4 else
    if b == 58 then 8 else
    if b == 124 then 16 else
    if b == 36 then 32 else
    if b == 92 then 64 else
    0

-- whether a byte is marked
abbrev pub is_marked : Marks → ℕ → Bool
is_marked m b = bit_at m.bits (place b) == 1

-- the marks are those of a text: each of these bytes is marked where it stands in the text, and only
-- there
abbrev pub AreMarksOf : Marks → List ℕ → Type 0
AreMarksOf m t = All (λ b. is_marked m b ≡ list_any (is_byte b) t) telling_bytes

-- the marks cover a text: a byte that is not marked does not stand in it
abbrev pub Cover : Marks → List ℕ → Type 0
Cover m t = All (λ b. is_marked m b ≡ false → list_any (is_byte b) t ≡ false) telling_bytes
