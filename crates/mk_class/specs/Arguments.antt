-- The tests of what an edit may write: values, words, targets, names and commands.
-- Told in docs/LANGUAGE.md, chapter 7.
use Rattle.std.specs.Prelude.{ℕ, ◌==◌, Bool, true, false, not, ◌&&◌, ◌||◌, nat_le, List}
use Rattle.std.specs.List.{list_any}
use Rattle.mk_lines.specs.Bytes.{ByteKind, LineFeed, CarriageReturn, byte_kind, is_backslash_kind, is_blank_byte}
use Rattle.mk_lines.specs.Units.{units, is_closed}
use Rattle.mk_lines.specs.Words.{is_gap}
use Rattle.mk_class.specs.ListTests.{is_empty, first_passes, last_passes}
use Rattle.mk_class.specs.Symbols.{Symbol, Hash, Colon, Semicolon, Equals, Bar, symbol, is_hash, is_escape, is_dollar_before_blank}

-- ---- bytes

-- whether a byte of this kind is a line feed or a carriage return
abbrev pub is_line_end_kind : ByteKind → Bool
is_line_end_kind LineFeed = true
is_line_end_kind CarriageReturn = true
is_line_end_kind k = false

-- whether a byte is a line feed, a carriage return or a NUL, which no argument may have
abbrev pub is_barred_byte : ℕ → Bool
is_barred_byte b = is_line_end_kind (byte_kind b) || (b == 0)

-- whether a text has no such byte
abbrev pub is_clean : List ℕ → Bool
is_clean t = not (list_any is_barred_byte t)

-- whether a byte is a backslash
abbrev pub is_backslash_byte : ℕ → Bool
is_backslash_byte b = is_backslash_kind (byte_kind b)

-- whether a byte is `&`
abbrev pub is_ampersand_byte : ℕ → Bool
is_ampersand_byte b = b == 38

-- whether a byte is from `low` to `high`
abbrev pub is_within : (low high byte : ℕ) → Bool
is_within l h b = nat_le l b && nat_le b h

-- whether a byte may stand in a name: an ASCII letter, a digit, `_`, `.` or `-`
abbrev pub is_name_byte : ℕ → Bool
is_name_byte b =
    is_within 48 57 b
    || (is_within 65 90 b
    || (is_within 97 122 b
    || ((b == 95)
    || ((b == 46)
    || (b == 45)))))

-- ---- units

-- whether a symbol may stand in no word: `#`, `:`, `;`, `=` or `|`
abbrev pub ends_word_symbol : Symbol → Bool
ends_word_symbol Hash = true
ends_word_symbol Colon = true
ends_word_symbol Semicolon = true
ends_word_symbol Equals = true
ends_word_symbol Bar = true
ends_word_symbol s = false

-- whether a unit may stand in no word that is written: it is a blank, one of these symbols, a unit
-- that begins with a backslash, or a dollar before a blank or a backslash
abbrev pub ends_word : List ℕ → Bool
ends_word u =
    is_gap (λ b. b) u
    || (ends_word_symbol (symbol (λ b. b) u)
    || (is_escape (λ b. b) u
    || is_dollar_before_blank (λ b. b) u))

-- ---- the five tests

-- whether a text may be a value: it has no LF, CR or NUL and no unit `#`; its first and last byte
-- is no blank, and its last byte is no backslash; and it is closed
abbrev pub is_value : List ℕ → Bool
is_value v =
    is_clean v && (not (first_passes is_blank_byte v) && (not (last_passes is_blank_byte v)
    && (is_closed (λ b. b) v && (not (list_any (is_hash (λ b. b)) (units (λ b. b) v))
    && not (last_passes is_backslash_byte v)))))

-- whether a text may be a word: it is not empty, has no LF, CR or NUL, is closed, and has no unit
-- that may stand in no word
abbrev pub is_word : List ℕ → Bool
is_word w =
    not (is_empty w)
    && (is_clean w
    && (is_closed (λ b. b) w
    && not (list_any ends_word (units (λ b. b) w))))

-- whether a text may be a target: a word whose last byte is no `&`
abbrev pub is_target : List ℕ → Bool
is_target t = is_word t && not (last_passes is_ampersand_byte t)

-- whether a text may be a variable's name: one or more of the bytes of names
abbrev pub is_name : List ℕ → Bool
is_name n = not (is_empty n) && not (list_any (λ b. not (is_name_byte b)) n)

-- whether a text may be a recipe line's command: it has no LF, CR or NUL, and its last byte is no
-- backslash
abbrev pub is_command : List ℕ → Bool
is_command c = is_clean c && not (last_passes is_backslash_byte c)
