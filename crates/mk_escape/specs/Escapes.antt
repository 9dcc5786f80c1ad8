-- Control characters as printable text, so that a terminal does not obey them.
-- Told in docs/EDITS.md, "At a terminal".
use Rattle.std.specs.Prelude.{ℕ, ◌+◌, ◌-◌, ◌/◌, ◌%◌, ◌==◌, ◌&&◌, ◌||◌, not, nat_lt, Bool, true, false, if◌then◌else◌, List, [], ◌∷◌, ◌++◌}
use Rattle.mk_escape.specs.declared.Layout.{Layout}
use Rattle.mk_escape.specs.declared.Layout.TheVariants.{Kept, Escaped}

-- ---- bytes of characters in UTF-8

abbrev pub second : List ℕ → ℕ
second (b ∷ c ∷ text) = c
second other = 0

abbrev pub third : List ℕ → ℕ
third (b ∷ c ∷ d ∷ text) = d
third other = 0

-- a byte from `least` to `greatest`
abbrev is_from : (least greatest b : ℕ) → Bool
is_from least greatest b = not (nat_lt b least) && not (nat_lt greatest b)

-- a byte that goes on with a character of several bytes
abbrev pub goes_on : ℕ → Bool
goes_on b = is_from 128 191 b

-- how many bytes go on with the character at the front of a text, by its first two bytes
abbrev pub more_bytes : (b c : ℕ) → ℕ
more_bytes b c =
    if is_from 194 223 b then 1
    else if (b == 224) && nat_lt c 160 then 0
    else if is_from 224 239 b then 2
    else if (b == 240) && nat_lt c 144 then 0
    else if is_from 240 244 b then 3
    else 0

-- ---- control characters

-- a tab or a line feed, which lay out a text of lines
abbrev is_layout : ℕ → Bool
is_layout b = (b == 9) || (b == 10)

-- one byte: C0, DEL, or C1 where it is no part of a character in UTF-8
abbrev pub is_control : Layout → ℕ → Bool
is_control Kept b = not (is_layout b) && (nat_lt b 32 || is_from 127 159 b)
is_control Escaped b = nat_lt b 32 || is_from 127 159 b

-- two bytes: C1, or U+061C
abbrev pub is_control_pair : (b c : ℕ) → Bool
is_control_pair b c = ((b == 194) && is_from 128 159 c) || ((b == 216) && (c == 156))

-- three bytes: the bidirectional controls U+200E, U+200F, U+202A to U+202E, and U+2066 to U+2069
abbrev pub is_control_triple : (b c d : ℕ) → Bool
is_control_triple b c d =
    (b == 226)
    && (((c == 128) && (is_from 142 143 d || is_from 170 174 d)) || ((c == 129) && is_from 166 169 d))

-- a control character stands at the front of a text, whose first byte is `b`
abbrev pub begins_control : Layout → (b : ℕ) → List ℕ → Bool
begins_control layout b text =
    is_control layout b || is_control_pair b (second text) || is_control_triple b (second text) (third text)

-- ---- escapes

-- a backslash, and the number of a byte in three octal digits
abbrev pub octal : ℕ → List ℕ
octal b = 92 ∷ (48 + b / 64) ∷ (48 + b / 8 % 8) ∷ (48 + b % 8) ∷ []

abbrev pub byte_shown : (is_control : Bool) → ℕ → List ℕ
byte_shown false b = b ∷ []
byte_shown true b = octal b

-- how many bytes may go on with the character of a byte: of the one before it, with which `left` bytes may go
-- on, or of one that begins here
abbrev pub left_after : (left b c : ℕ) → ℕ
left_after left b c = if nat_lt 0 left && goes_on b then left - 1 else more_bytes b c

-- whether a byte is of a control character: of the one before it, or of one that begins here
abbrev pub control_after : Layout → (left : ℕ) → (is_control : Bool) → (b : ℕ) → List ℕ → Bool
control_after layout left control b text =
    if nat_lt 0 left && goes_on b then control else begins_control layout b text

-- The bytes of a text as they are shown. `left` of them may go on with the character before it, which is a
-- control character or not.
abbrev pub shown_on : Layout → (left : ℕ) → (is_control : Bool) → List ℕ → List ℕ
shown_on layout left control [] = []
shown_on layout left control (b ∷ text) =
    byte_shown (control_after layout left control b (b ∷ text)) b
    ++ shown_on layout (left_after left b (second (b ∷ text)))
    (control_after layout left control b (b ∷ text)) text

-- a text, its control characters escaped
abbrev pub escaped : Layout → List ℕ → List ℕ
escaped layout text = shown_on layout 0 false text

-- a text of lines as it is shown at a terminal, or elsewhere
abbrev pub shown_text : (is_terminal : Bool) → List ℕ → List ℕ
shown_text true text = escaped Kept text
shown_text false text = text
