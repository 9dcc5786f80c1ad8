-- Physical lines, and how a line ends.
-- Told in docs/LANGUAGE.md, chapter 1.
use Rattle.std.specs.Prelude.{ℕ, Bool, true, false, List, [], ◌∷◌, reverse}
use Rattle.mk_lines.specs.Lists.{onto_first}
use Rattle.mk_lines.specs.Bytes.{ByteKind, LineFeed, CarriageReturn, byte_kind, is_carriage_return_kind}
use Rattle.mk_lines.specs.declared.ends.End.{End}
use Rattle.mk_lines.specs.declared.ends.End.TheVariants.{None, Lf, CrLf}

-- a byte, by its kind, before the lines of the text after it: a line feed is a line by itself, any
-- other byte goes to the first line
abbrev pub before_lines : ByteKind → ℕ → List (List ℕ) → List (List ℕ)
before_lines LineFeed b ls = (b ∷ []) ∷ ls
before_lines k b ls = onto_first (b ∷ []) ls

-- the physical lines of a text: the text is divided after each line feed, and the last line may
-- have no line feed
abbrev pub physical_lines : List ℕ → List (List ℕ)
physical_lines [] = []
physical_lines (b ∷ t) = before_lines (byte_kind b) b (physical_lines t)

-- ---- the line end, of a text that is read backwards

-- a text that begins with a byte of this kind, without that byte if it is a carriage return
abbrev pub drop_carriage_return_at : ByteKind → ℕ → List ℕ → List ℕ
drop_carriage_return_at CarriageReturn b t = t
drop_carriage_return_at k b t = b ∷ t

-- a text read backwards, without a carriage return at its front
abbrev pub drop_carriage_return : List ℕ → List ℕ
drop_carriage_return [] = []
drop_carriage_return (b ∷ t) = drop_carriage_return_at (byte_kind b) b t

-- a line read backwards that begins with a byte of this kind, without its line end
abbrev pub drop_line_end_at : ByteKind → ℕ → List ℕ → List ℕ
drop_line_end_at LineFeed b t = drop_carriage_return t
drop_line_end_at k b t = b ∷ t

-- a line read backwards, without its line end
abbrev pub drop_line_end : List ℕ → List ℕ
drop_line_end [] = []
drop_line_end (b ∷ t) = drop_line_end_at (byte_kind b) b t

-- whether the first byte is a carriage return
abbrev pub is_carriage_return_first : List ℕ → Bool
is_carriage_return_first [] = false
is_carriage_return_first (b ∷ t) = is_carriage_return_kind (byte_kind b)

-- the line end that a line feed makes, with or without a carriage return before it
abbrev pub line_end_by : Bool → End
line_end_by true = CrLf
line_end_by false = Lf

-- the line end of a line read backwards that begins with a byte of this kind
abbrev pub line_end_at : ByteKind → List ℕ → End
line_end_at LineFeed t = line_end_by (is_carriage_return_first t)
line_end_at k t = None

-- the line end of a line read backwards
abbrev pub line_end_backwards : List ℕ → End
line_end_backwards [] = None
line_end_backwards (b ∷ t) = line_end_at (byte_kind b) t

-- ---- the line end, of a line

-- the line end of a line: its line feed, with a carriage return directly before it; or None
abbrev pub line_end : List ℕ → End
line_end l = line_end_backwards (reverse l)

-- the text of a line before its line end
abbrev pub without_line_end : List ℕ → List ℕ
without_line_end l = reverse (drop_line_end (reverse l))

-- the bytes of a line end
abbrev pub line_end_bytes : End → List ℕ
line_end_bytes None = []
line_end_bytes Lf = 10 ∷ []
line_end_bytes CrLf = 13 ∷ 10 ∷ []

-- whether the last byte is a carriage return
abbrev pub ends_with_carriage_return : List ℕ → Bool
ends_with_carriage_return t = is_carriage_return_first (reverse t)

-- ---- the line end of new lines

-- a line end, or LF if there is none
abbrev pub line_end_or_lf : End → End
line_end_or_lf None = Lf
line_end_or_lf Lf = Lf
line_end_or_lf CrLf = CrLf

-- the line end of the first of some lines, or LF if that line has none
abbrev pub first_line_end : List (List ℕ) → End
first_line_end [] = Lf
first_line_end (l ∷ ls) = line_end_or_lf (line_end l)

-- the line end of a text's new lines: that of its first physical line, or LF if that line has none
abbrev pub file_line_end : List ℕ → End
file_line_end t = first_line_end (physical_lines t)
