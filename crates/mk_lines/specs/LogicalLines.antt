-- Logical lines: a physical line with all that continue it.
-- Told in docs/LANGUAGE.md, chapter 1.
use Rattle.std.specs.Prelude.{◌≡◌, ℕ, Bool, true, false, not, ◌&&◌, ◌||◌, List, [], ◌∷◌, reverse}
use Rattle.mk_lines.specs.Lists.{onto_first}
use Rattle.mk_lines.specs.Bytes.{ByteKind, Backslash, byte_kind}
use Rattle.mk_lines.specs.PhysicalLines.{physical_lines, line_end, without_line_end, ends_with_carriage_return}
use Rattle.mk_lines.specs.declared.ends.End.{End}
use Rattle.mk_lines.specs.declared.ends.End.TheVariants.{None, Lf, CrLf}

-- whether the run of backslashes at the front of a text that begins with a byte of this kind has
-- odd length; `rest` says so of what follows
abbrev pub starts_with_odd_run_at : ByteKind → (rest : Bool) → Bool
starts_with_odd_run_at Backslash rest = not rest
starts_with_odd_run_at k rest = false

-- whether the run of backslashes at the front of a text has odd length
abbrev pub starts_with_odd_run : List ℕ → Bool
starts_with_odd_run [] = false
starts_with_odd_run (b ∷ t) = starts_with_odd_run_at (byte_kind b) (starts_with_odd_run t)

-- whether the run of backslashes at the end of a text has odd length
abbrev pub ends_with_odd_run : List ℕ → Bool
ends_with_odd_run t = starts_with_odd_run (reverse t)

-- whether the next physical line, if there is one, continues this line: the text of this line
-- before its line end closes with an odd run of backslashes
abbrev pub is_continued : List ℕ → Bool
is_continued l = ends_with_odd_run (without_line_end l)

-- a line, continued or not, before the groups of those after it
abbrev pub before_group : (continued : Bool) → List ℕ → List (List ℕ) → List (List ℕ)
before_group true l ls = onto_first l ls
before_group false l ls = l ∷ ls

-- lines in groups, each joined: a line is in one group with the next line if the next line
-- continues it
abbrev pub grouped : List (List ℕ) → List (List ℕ)
grouped [] = []
grouped (l ∷ ls) = before_group (is_continued l) l (grouped ls)

-- the logical lines of a text
abbrev pub logical_lines : List ℕ → List (List ℕ)
logical_lines t = grouped (physical_lines t)

-- whether a line end is none
abbrev pub has_no_line_end : End → Bool
has_no_line_end None = true
has_no_line_end Lf = false
has_no_line_end CrLf = false

-- whether a text put after this line, the last of a text, could become a part of it: the line is
-- continued, or it has no line end and its last byte is a carriage return
abbrev pub is_open : List ℕ → Bool
is_open l = is_continued l || (has_no_line_end (line_end l) && ends_with_carriage_return l)

-- whether a text ends a line, so that what follows the text begins a new one: the text is empty, or
-- it has a line end and is not continued
abbrev pub ends_line : List ℕ → Bool
ends_line [] = true
ends_line (b ∷ t) = not (has_no_line_end (line_end (b ∷ t))) && not (is_continued (b ∷ t))

-- a text ends a line if lines follow it
abbrev pub EndsWhereFollowed : List ℕ → List (List ℕ) → Type 0
EndsWhereFollowed t [] = Unit {0}
EndsWhereFollowed t (l ∷ ls) = ends_line t ≡ true
