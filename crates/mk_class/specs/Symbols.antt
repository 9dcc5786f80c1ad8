-- What a unit is to assignments and rules: a symbol of one byte, or a unit that may stand in no
-- word of a header. Blanks are told by `is_gap`.
-- Told in docs/LANGUAGE.md, chapters 1 and 5.
use Rattle.std.specs.Prelude.{ℕ, ◌==◌, if◌then◌else◌, Bool, true, false, ◌&&◌, ◌||◌, List, [], ◌∷◌}
use Rattle.mk_lines.specs.Bytes.{byte_kind, is_blank_kind, is_backslash_kind}
use Rattle.mk_lines.specs.Units.{Mark, byte_mark}
use Rattle.mk_lines.specs.FirstUnit.{is_unclosed_unit}

-- the symbols of assignments and rules
pub data Symbol : Type 0 where
  Hash : Symbol
  Colon : Symbol
  Semicolon : Symbol
  Equals : Symbol
  Plus : Symbol
  Question : Symbol
  Exclamation : Symbol
  Bar : Symbol
  Ampersand : Symbol
  NoSymbol : Symbol

-- the symbol of a byte
abbrev pub byte_symbol : ℕ → Symbol
byte_symbol b =
    if b == 35 then Hash else
    if b == 58 then Colon else
    if b == 59 then Semicolon else
    if b == 61 then Equals else
    if b == 43 then Plus else
    if b == 63 then Question else
    if b == 33 then Exclamation else
    if b == 124 then Bar else
    if b == 38 then Ampersand else
    NoSymbol

-- whether a symbol is `#`
abbrev pub is_hash_symbol : Symbol → Bool
is_hash_symbol Hash = true
is_hash_symbol s = false

-- whether a symbol is `:`
abbrev pub is_colon_symbol : Symbol → Bool
is_colon_symbol Colon = true
is_colon_symbol s = false

-- whether a symbol is `;`
abbrev pub is_semicolon_symbol : Symbol → Bool
is_semicolon_symbol Semicolon = true
is_semicolon_symbol s = false

-- whether a symbol is `=`
abbrev pub is_equals_symbol : Symbol → Bool
is_equals_symbol Equals = true
is_equals_symbol s = false

-- whether a symbol is `|`
abbrev pub is_bar_symbol : Symbol → Bool
is_bar_symbol Bar = true
is_bar_symbol s = false

-- whether a symbol is `&`
abbrev pub is_ampersand_symbol : Symbol → Bool
is_ampersand_symbol Ampersand = true
is_ampersand_symbol s = false

-- whether a mark is `$`
abbrev pub is_dollar_mark : Mark → Bool
is_dollar_mark Mark.Dollar = true
is_dollar_mark m = false

-- whether a byte is a blank or a backslash
abbrev pub is_blank_or_backslash : ℕ → Bool
is_blank_or_backslash b = is_blank_kind (byte_kind b) || is_backslash_kind (byte_kind b)

module _ {A : Type 0} (byte : A → ℕ) where
  -- the symbol that a unit is; only a unit of one byte is a symbol
  abbrev pub symbol : List A → Symbol
  symbol [] = NoSymbol
  symbol (x ∷ []) = byte_symbol (byte x)
  symbol (x ∷ y ∷ u) = NoSymbol

  -- whether a unit is `#`
  abbrev pub is_hash : List A → Bool
  is_hash u = is_hash_symbol (symbol u)

  -- whether a unit is `:`
  abbrev pub is_colon : List A → Bool
  is_colon u = is_colon_symbol (symbol u)

  -- whether a unit is `;`
  abbrev pub is_semicolon : List A → Bool
  is_semicolon u = is_semicolon_symbol (symbol u)

  -- whether a unit is `=`
  abbrev pub is_equals : List A → Bool
  is_equals u = is_equals_symbol (symbol u)

  -- whether a unit is `|`
  abbrev pub is_bar : List A → Bool
  is_bar u = is_bar_symbol (symbol u)

  -- whether a unit is `&`
  abbrev pub is_ampersand : List A → Bool
  is_ampersand u = is_ampersand_symbol (symbol u)

  -- whether a unit begins with a backslash
  abbrev pub is_escape : List A → Bool
  is_escape [] = false
  is_escape (x ∷ u) = is_backslash_kind (byte_kind (byte x))

  -- whether a unit is a dollar before a blank or a backslash
  abbrev pub is_dollar_before_blank : List A → Bool
  is_dollar_before_blank [] = false
  is_dollar_before_blank (x ∷ []) = false
  is_dollar_before_blank (x ∷ y ∷ u) =
      is_dollar_mark (byte_mark (byte x)) && is_blank_or_backslash (byte y)

  -- whether a unit may stand in no word of a header: it begins with a backslash, or is a dollar
  -- before a blank or a backslash, a lone dollar or an unclosed reference
  abbrev pub is_unreadable_unit : List A → Bool
  is_unreadable_unit u = is_escape u || (is_dollar_before_blank u || is_unclosed_unit byte u)
