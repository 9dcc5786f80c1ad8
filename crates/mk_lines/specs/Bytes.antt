-- What a byte is to lines and folds.
-- Told in docs/LANGUAGE.md, chapter 1.
use Rattle.std.specs.Prelude.{ℕ, ◌==◌, if◌then◌else◌, Bool, true, false}

-- the kinds of bytes that make lines and folds; a blank is a space or a tab
pub data ByteKind : Type 0 where
  LineFeed : ByteKind
  CarriageReturn : ByteKind
  Backslash : ByteKind
  Blank : ByteKind
  Ordinary : ByteKind

-- the kind of a byte
abbrev pub byte_kind : ℕ → ByteKind
byte_kind b =
    if b == 10 then LineFeed else
    if b == 13 then CarriageReturn else
    if b == 92 then Backslash else
    if b == 32 then Blank else
    if b == 9 then Blank else
    Ordinary

-- whether a byte of this kind is a blank
abbrev pub is_blank_kind : ByteKind → Bool
is_blank_kind Blank = true
is_blank_kind k = false

-- whether a byte is a blank
abbrev pub is_blank_byte : ℕ → Bool
is_blank_byte b = is_blank_kind (byte_kind b)

-- whether a byte of this kind is a backslash
abbrev pub is_backslash_kind : ByteKind → Bool
is_backslash_kind Backslash = true
is_backslash_kind k = false

-- whether a byte of this kind is a carriage return
abbrev pub is_carriage_return_kind : ByteKind → Bool
is_carriage_return_kind CarriageReturn = true
is_carriage_return_kind k = false
