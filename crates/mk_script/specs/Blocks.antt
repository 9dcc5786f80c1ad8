-- Blocks over several lines: a field `<<WORD`, and the lines of a script below.
-- Told in docs/EDITS.md, "The script".
use Rattle.std.specs.Prelude.{◌≡◌, ℕ, Bool, false, not, ◌==◌, ◌||◌, ◌&&◌, nat_le, if◌then◌else◌, List, [], ◌∷◌, ◌++◌, Option, Some, None}
use Rattle.std.specs.List.{list_all}
use Rattle.std.specs.Str.{bytes_eq}
use Rattle.mk_lines.specs.Lists.{Each}
use Rattle.mk_lines.specs.declared.ends.End.TheVariants as ends
use Rattle.mk_edit_language.specs.LineExchanges.{with_line_ends}
use Rattle.mk_script.specs.Fields.{Field, Bare, Quoted, text}

-- an ASCII letter, a digit or `_`
abbrev pub is_word_byte : ℕ → Bool
is_word_byte b =
    (nat_le 97 b && nat_le b 122)
    || ((nat_le 65 b && nat_le b 90) || ((nat_le 48 b && nat_le b 57) || b == 95))

-- one or more of these
abbrev pub is_word : List ℕ → Bool
is_word [] = false
is_word (b ∷ word) = list_all is_word_byte (b ∷ word)

-- the word behind `<<`
abbrev word_behind : List ℕ → Option (List ℕ)
word_behind (a ∷ b ∷ word) =
    if a == 60 && (b == 60 && is_word word) then Some word else None
word_behind t = None

-- the word of a field that is `<<` and a word, without quotes
abbrev pub end_word : Field → Option (List ℕ)
end_word (Bare t) = word_behind t
end_word (Quoted t) = None

-- one or more lines, none of which is this word
abbrev pub AreBefore : (word : List ℕ) → (lines : List (List ℕ)) → Type 0
AreBefore word [] = ⊥
AreBefore word (line ∷ lines) = Each (λ l. not (bytes_eq l word)) (line ∷ lines)

-- the text of a block: its lines with LF between them
abbrev pub block_text : List (List ℕ) → List ℕ
block_text lines = with_line_ends ends.Lf ends.None lines

-- A field with these lines below it has this text. It has it by itself, and no lines; or it is `<<` and a
-- word, and the lines are those of the text, with the word behind them.
abbrev pub HasTextBy : (end_word : Option (List ℕ)) → Field → (below : List (List ℕ)) → List ℕ
    → Type 0
HasTextBy None field below t = (below ≡ []) × (text field ≡ t)
HasTextBy (Some word) field below t =
    (lines : List (List ℕ)) × AreBefore word lines × (below ≡ lines ++ word ∷ [])
    × (block_text lines ≡ t)

abbrev pub HasBlockText : Field → (below : List (List ℕ)) → List ℕ → Type 0
HasBlockText field below t = HasTextBy (end_word field) field below t
