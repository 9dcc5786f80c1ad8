-- How the fields of a line are read: one after the other, from the front.
-- Told in docs/ARCHITECTURE.md, "From a script to a text".
use Rattle.std.specs.Prelude.{◌≡◌, ℕ, zero, suc, Bool, true, false, not, ◌==◌, if◌then◌else◌, List, [], ◌∷◌, take, drop, Option, Some, None, option_map, option_and_then}
use Rattle.std.specs.List.{prefix_len}
use Rattle.mk_lines.specs.Bytes.{is_blank_byte}
use Rattle.mk_script.specs.Fields.{Field, Bare, Quoted, is_special, escaped}

-- ---- blanks

-- how many blanks a text begins with, and what follows them
abbrev pub blanks_before : List ℕ → ℕ
blanks_before text = prefix_len is_blank_byte text

abbrev pub after_blanks : List ℕ → List ℕ
after_blanks text = drop (blanks_before text) text

abbrev pub is_empty : List ℕ → Bool
is_empty [] = true
is_empty (b ∷ text) = false

-- whether a text has only blanks
abbrev pub is_blank : List ℕ → Bool
is_blank text = is_empty (after_blanks text)

-- whether a text is empty or begins with a blank
abbrev pub ends_field : List ℕ → Bool
ends_field [] = true
ends_field (b ∷ text) = is_blank_byte b

-- how many bytes stand before the first blank
abbrev pub bare_len : List ℕ → ℕ
bare_len text = prefix_len (λ b. not (is_blank_byte b)) text

-- ---- quotes

-- The bytes between quotes, without their escapes: a backslash goes, and the byte after it stays.
-- `after_backslash` says whether a backslash stands before the text.
abbrev pub unescaped : (after_backslash : Bool) → List ℕ → List ℕ
unescaped s [] = []
unescaped true (b ∷ text) = b ∷ unescaped false text
unescaped false (b ∷ text) = if b == 92 then unescaped true text else b ∷ unescaped false text

-- a text is a field with its escapes
abbrev pub IsEscaped : List ℕ → Type 0
IsEscaped text = escaped (unescaped false text) ≡ text

-- one byte more at the front of the first of two texts
abbrev pub with_byte : ℕ → Option (List ℕ × List ℕ) → Option (List ℕ × List ℕ)
with_byte b None = None
with_byte b (Some p) = Some (b ∷ p.0, p.1)

-- a text up to the quote that ends a field, and what follows the quote; `after_backslash` says
-- whether a backslash stands before the text
abbrev pub until_quote : (after_backslash : Bool) → List ℕ → Option (List ℕ × List ℕ)
until_quote s [] = None
until_quote true (b ∷ text) = if is_special b then with_byte b (until_quote false text) else None
until_quote false (b ∷ text) =
    if b == 34 then Some ([], text) else with_byte b (until_quote (b == 92) text)

-- ---- fields

-- a quoted field, from what stands between its quotes and what follows them, which has to end the
-- field
abbrev pub quoted_field : Option (List ℕ × List ℕ) → Option (Field × List ℕ)
quoted_field None = None
quoted_field (Some p) =
    if ends_field p.1 then Some (Quoted (unescaped false p.0), p.1) else None

-- the field at the front of a text, and what follows it
abbrev pub field_at_front : List ℕ → Option (Field × List ℕ)
field_at_front [] = None
field_at_front (b ∷ text) =
    if b == 34
    then quoted_field (until_quote false text)
    else Some
    (Bare (take (bare_len (b ∷ text)) (b ∷ text)), drop (bare_len (b ∷ text)) (b ∷ text))

-- the first field of a line, and what follows it; None if the line has only blanks, or if a quote
-- is bad
abbrev pub first_field : List ℕ → Option (Field × List ℕ)
first_field line = field_at_front (after_blanks line)

-- the fields of a line that has at most so many
abbrev pub fields_within : (most : ℕ) → (line : List ℕ) → Option (List Field)
fields_within zero line = if is_blank line then Some [] else None
fields_within (suc most) line =
    if is_blank line
    then Some []
    else option_and_then
    (λ (p : Field × List ℕ). option_map (λ fields. p.0 ∷ fields) (fields_within most p.1))
    (first_field line)
