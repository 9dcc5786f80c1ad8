-- What keeps a line from being read as it stands: bad folds and stray bytes. Both are this
-- project's profile.
-- Told in docs/LANGUAGE.md, chapter 1.
use Rattle.std.specs.Prelude.{◌==◌, Bool, true, false, ◌&&◌, ◌||◌, List, [], ◌∷◌}
use Rattle.mk_lines.specs.Bytes.{ByteKind, LineFeed, CarriageReturn, byte_kind, is_backslash_kind}
use Rattle.mk_lines.specs.Cells.{Cell, Fold, joined_byte}

-- whether a cell is a fold
abbrev pub is_fold : Cell → Bool
is_fold (Fold r) = true
is_fold c = false

-- whether a cell is a backslash
abbrev pub is_backslash_cell : Cell → Bool
is_backslash_cell c = is_backslash_kind (byte_kind (joined_byte c))

-- whether the first cell is a fold
abbrev pub is_fold_first : List Cell → Bool
is_fold_first [] = false
is_fold_first (c ∷ cs) = is_fold c

-- whether some fold is bad: a backslash stands directly before its whole run
abbrev pub has_bad_fold : List Cell → Bool
has_bad_fold [] = false
has_bad_fold (c ∷ cs) = (is_backslash_cell c && is_fold_first cs) || has_bad_fold cs

-- whether a byte of this kind is stray; `zero` says whether the byte is a NUL
abbrev pub is_stray_by : ByteKind → (zero : Bool) → Bool
is_stray_by LineFeed z = true
is_stray_by CarriageReturn z = true
is_stray_by k z = z

-- whether a cell is a stray byte: a NUL, a carriage return that is no part of a line end, or a line
-- end by itself, of which the text of one logical line has none
abbrev pub is_stray : Cell → Bool
is_stray c = is_stray_by (byte_kind (joined_byte c)) (joined_byte c == 0)

-- whether some cell is a stray byte
abbrev pub has_stray : List Cell → Bool
has_stray [] = false
has_stray (c ∷ cs) = is_stray c || has_stray cs
