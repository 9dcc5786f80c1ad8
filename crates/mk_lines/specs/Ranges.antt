-- Offsets by lengths: the ranges of pieces that follow one another, the ranges of words, and the
-- raw range of some joined bytes.
-- Told in docs/LANGUAGE.md, chapter 1.
use Rattle.std.specs.Prelude.{ℕ, ◌+◌, List, [], ◌∷◌, length, take, slice_range}
use Rattle.mk_lines.specs.Lists.{concat}
use Rattle.mk_lines.specs.LogicalLines.{logical_lines}
use Rattle.mk_lines.specs.Cells.{Cell, raw_text}
use Rattle.mk_lines.specs.Units.{units}
use Rattle.mk_lines.specs.Words.{Token, Gap, Word, tokens}
use Rattle.mk_lines.specs.declared.split.Span.{Span}

-- the elements of a text in a range
abbrev pub text_at : {A : Type 0} → List A → Span → List A
text_at t s = slice_range t s.start s.end

-- the ranges of pieces that follow one another; the first piece begins at this offset
abbrev pub piece_ranges : {A : Type 0} → ℕ → List (List A) → List Span
piece_ranges at [] = []
piece_ranges at (p ∷ ps) =
    record { start = at; end = at + length p } ∷ piece_ranges (at + length p) ps

-- the ranges of the words among tokens; the first token begins at this offset
abbrev pub word_token_ranges : {A : Type 0} → ℕ → List (Token A) → List Span
word_token_ranges at [] = []
word_token_ranges at (Gap u ∷ ts) = word_token_ranges (at + length u) ts
word_token_ranges at (Word w ∷ ts) =
    record { start = at; end = at + length (concat w) }
    ∷ word_token_ranges (at + length (concat w)) ts

-- the ranges of a text's logical lines, in bytes
abbrev pub line_ranges : List ℕ → List Span
line_ranges t = piece_ranges 0 (logical_lines t)

-- the ranges of a text's units, in bytes
abbrev pub unit_ranges : List ℕ → List Span
unit_ranges t = piece_ranges 0 (units (λ b. b) t)

-- the ranges of a text's words, in bytes
abbrev pub word_ranges : List ℕ → List Span
word_ranges t = word_token_ranges 0 (tokens (λ b. b) (units (λ b. b) t))

-- the raw offset of a joined offset: how many raw bytes stand before the joined byte there
abbrev pub raw_offset : List Cell → ℕ → ℕ
raw_offset cs n = length (raw_text (take n cs))

-- the raw range of the joined bytes from `start` up to `end`
abbrev pub raw_range : List Cell → (start end : ℕ) → Span
raw_range cs start end = record { start = raw_offset cs start; end = raw_offset cs end }
