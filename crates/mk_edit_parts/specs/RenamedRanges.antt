-- Where the words that a rename replaces stand in a line, as a document shows the line.
-- Told in docs/ARCHITECTURE.md, "An edit's way, from Edit to moved lines".
use Rattle.std.specs.Prelude.{ℕ, ◌+◌, ◌-◌, ◌≤◌, ◌==◌, ◌||◌, if◌then◌else◌, Bool, true, false, List, [], ◌∷◌, ◌++◌, length, Option, Some, None}
use Rattle.std.specs.Str.{bytes_eq}
use Rattle.std.specs.List.{list_any}
use Rattle.mk_lines.specs.Cells.{Cell, joined_text, line_cells}
use Rattle.mk_lines.specs.Ranges.{raw_range, text_at, word_ranges}
use Rattle.mk_lines.specs.declared.split.Span.{Span}
use Rattle.mk_class.specs.declared.class.Class as class
use Rattle.mk_class.specs.declared.class.Class.TheVariants as variants
use Rattle.mk_tree.specs.LocatedLines.{LocatedLine}
use Rattle.mk_edit_parts.specs.declared.word_parts.WordParts.{WordParts}
use Rattle.mk_edit_parts.specs.declared.tally.Tally.{Tally}

-- ---- the parts of a line

-- the part from one offset up to another
abbrev pub span : (start end : ℕ) → Span
span s e = record { start = s; end = e }

-- the parts of a line's joined text in which words are renamed, where its class is this one
abbrev pub word_parts : class.Class → WordParts
word_parts (variants.Header h) = record {
  targets = span 0 h.targets_end;
  normal = span h.normal_start h.normal_end;
  order_only = span (h.normal_end + (if h.has_order_only then 1 else 0)) h.head_end;
}
word_parts (variants.TargetAssign a) =
    record { targets = span 0 a.targets_end; normal = span 0 0; order_only = span 0 0 }
word_parts k = record { targets = span 0 0; normal = span 0 0; order_only = span 0 0 }

-- whether a line of this class has such parts
abbrev pub has_parts : class.Class → Bool
has_parts (variants.Header h) = true
has_parts (variants.TargetAssign a) = true
has_parts k = false

-- ---- the words

-- the raw range of a word, if it is the old word; the word's range counts from the start of its
-- part
abbrev pub range_in : (cells : List Cell) → (part_start : ℕ) → (old : List ℕ) → Span → Option Span
range_in cs at o w =
    if bytes_eq (text_at (joined_text cs) (span (at + w.start) (at + w.end))) o
    then Some (raw_range cs (at + w.start) (at + w.end))
    else None

-- a range put before other ranges, if there is one
abbrev pub before_ranges : Option Span → List Span → List Span
before_ranges None ss = ss
before_ranges (Some s) ss = s ∷ ss

-- the raw ranges of the words of a part that are the old word
abbrev pub ranges_in : (cells : List Cell) → (part_start : ℕ) → (old : List ℕ) → List Span
    → List Span
ranges_in cs at o [] = []
ranges_in cs at o (w ∷ ws) = before_ranges (range_in cs at o w) (ranges_in cs at o ws)

-- the raw ranges of the old words in a part
abbrev pub part_ranges : (cells : List Cell) → (old : List ℕ) → (part : Span) → List Span
part_ranges cs o p = ranges_in cs p.start o (word_ranges (text_at (joined_text cs) p))

-- the raw ranges of the old words in all parts
abbrev pub parts_ranges : (cells : List Cell) → (old : List ℕ) → WordParts → List Span
parts_ranges cs o p =
    part_ranges cs o p.targets ++ (part_ranges cs o p.normal ++ part_ranges cs o p.order_only)

-- the raw ranges of the old words in a line
abbrev pub renamed_ranges : (old : List ℕ) → LocatedLine → List Span
renamed_ranges o l = parts_ranges (line_cells l.bytes) o (word_parts l.class)

-- ---- what is counted of these words

-- how many bytes the ranges have
abbrev pub bytes_in : List Span → ℕ
bytes_in [] = 0
bytes_in (s ∷ ss) = (s.end - s.start) + bytes_in ss

-- whether a range begins at the front of the line
abbrev pub is_at_front : Span → Bool
is_at_front s = s.start == 0

-- the first range, of those counted before or else of some more
abbrev pub first_range : (before : Option Span) → (more : List Span) → Option Span
first_range (Some s) ss = Some s
first_range None [] = None
first_range None (s ∷ ss) = Some s

-- a count with the words in these ranges added
abbrev pub tallied : Tally → List Span → Tally
tallied t ss =
    record {
      words = t.words + length ss;
      bytes = t.bytes + bytes_in ss;
      at_front = t.at_front || list_any is_at_front ss;
      first = first_range t.first ss;
    }

-- nothing counted
abbrev pub no_words : Tally
no_words = record { words = 0; bytes = 0; at_front = false; first = None }

-- ---- where the ranges may stand

-- a range within a text of this length
abbrev pub IsWithin : (length : ℕ) → Span → Type 0
IsWithin n s = (s.start ≤ s.end) × (s.end ≤ n)

-- each of some ranges is within a text of this length
abbrev pub AreWithin : (length : ℕ) → List Span → Type 0
AreWithin n [] = Unit {0}
AreWithin n (s ∷ ss) = IsWithin n s × AreWithin n ss

-- each part is within a text of this length
abbrev pub ArePartsWithin : (length : ℕ) → WordParts → Type 0
ArePartsWithin n p = IsWithin n p.targets × IsWithin n p.normal × IsWithin n p.order_only
