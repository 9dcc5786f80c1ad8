-- What a change of a value does: the spans of the value, the words in it, and the lines that are
-- changed.
-- Told in docs/EDITS.md, "Variables".
use Rattle.std.specs.Prelude.{ℕ, ◌+◌, if◌then◌else◌, List, [], ◌∷◌, length, Bool, false, not, ◌++◌, filter, Option, Some, None, ◌&&◌, true}
use Rattle.mk_lines.specs.Cells.{Cell, joined_byte}
use Rattle.mk_lines.specs.Pieces.{Replacement, Piece, Keep, Replace, replacements}
use Rattle.mk_class.specs.ListTests.{is_empty}
use Rattle.mk_class.specs.Assignments.{Assignment, before_value}
use Rattle.mk_class.specs.Classes.{Class}
use Rattle.mk_class.specs.Classes.Class.{Assign}
use Rattle.mk_class.specs.PartOffsets.{raw_width}
use Rattle.mk_tree.specs.Documents.{text_of}
use Rattle.mk_tree.specs.LineTexts.{StandingLine}
use Rattle.mk_lines.specs.Lists.{concat}
use Rattle.mk_lines.specs.Words.{Token, Gap, Word, tokens}
use Rattle.mk_class.specs.Texts.{is_one_of, word_texts}
use Rattle.mk_edit_language.specs.WordPieces.{is_word_of}
use Rattle.mk_class.specs.ClassedLines.{ClassedLine}
use Rattle.mk_edit_language.specs.Edits.{ValueChange, Set, SetIf, Append, Add, Remove}
use Rattle.mk_edit_language.specs.Addresses.{assigns, has_value}

-- ---- where a value stands, and the spans that change it

-- where the value of an assignment begins, if its line begins at this offset; where the value ends;
-- and where the blanks and folds after it end
abbrev pub value_start : (line_start : ℕ) → Assignment Cell → ℕ
value_start at a = at + raw_width (before_value a)

abbrev pub value_end : (line_start : ℕ) → Assignment Cell → ℕ
value_end at a = value_start at a + raw_width a.value

abbrev pub blanks_end : (line_start : ℕ) → Assignment Cell → ℕ
blanks_end at a = value_end at a + raw_width a.after

-- the span of the value; if the new value is empty, with the blanks and folds after the old one
abbrev pub set_value_span : (value : List ℕ) → (line_start : ℕ) → Assignment Cell → Replacement
set_value_span v at a = record {
  start = value_start at a;
  end = if is_empty v then blanks_end at a else value_end at a;
  new = v;
}

-- the span of a text appended: an empty range at the value's end; the new bytes are a space and the
-- text, or only the text if the value is empty
abbrev pub append_value_span : (value : List ℕ) → (line_start : ℕ) → Assignment Cell → Replacement
append_value_span v at a = record {
  start = value_end at a;
  end = value_end at a;
  new = if is_empty a.value then v else 32 ∷ v;
}

-- the spans in a line of this class; the line begins at this offset
abbrev pub assignment_spans : (ℕ → Assignment Cell → List Replacement) → (line_start : ℕ)
    → Class Cell → List Replacement
assignment_spans f at (Assign a p) = f at a
assignment_spans f at k = []

-- the spans in an assignment's line
abbrev pub value_spans : (ℕ → Assignment Cell → List Replacement) → StandingLine
    → List Replacement
value_spans f s = assignment_spans f (length (text_of s.above)) s.line.class

-- ---- the words of a value

-- whether there is an assignment, and it passes the test
abbrev pub assignment_passes : (Assignment Cell → Bool) → Option (Class Cell) → Bool
assignment_passes p (Some (Assign a s)) = p a
assignment_passes p k = false

-- whether a word is one of the words of a value
abbrev pub has_value_word : List ℕ → Assignment Cell → Bool
has_value_word w a = is_one_of w (word_texts joined_byte a.value)

-- a word of a value, with the blanks and folds directly before it
pub record LedWord : Type 0 where
  pub gaps : List (List Cell)
  pub word : List (List Cell)

-- the words among tokens; `gaps` are the blanks and folds read so far
abbrev pub led_words_among : (gaps : List (List Cell)) → List (Token Cell) → List LedWord
led_words_among g [] = []
led_words_among g (Gap u ∷ ts) = led_words_among (g ++ u ∷ []) ts
led_words_among g (Word w ∷ ts) = record { gaps = g; word = w } ∷ led_words_among [] ts

-- the words of a value, which begins and ends with a word if it is not empty
abbrev pub led_words : (value : List (List Cell)) → List LedWord
led_words us = led_words_among [] (tokens joined_byte us)

-- the words that are not this text: they stay if it is taken out
abbrev pub staying : (word : List ℕ) → List LedWord → List LedWord
staying t ls = filter (λ l. not (is_word_of t l.word)) ls

-- the units of words and of the blanks and folds before them; and without those before the first
abbrev pub led_units : List LedWord → List (List Cell)
led_units [] = []
led_units (l ∷ ls) = l.gaps ++ (l.word ++ led_units ls)

abbrev pub from_first_word : List LedWord → List (List Cell)
from_first_word [] = []
from_first_word (l ∷ ls) = l.word ++ led_units ls

-- ---- pieces

-- words before which a word stays, as pieces: each word that goes does so with the blanks and folds
-- directly before it
abbrev pub pieces_after : (word : List ℕ) → List LedWord → List Piece
pieces_after t [] = []
pieces_after t (l ∷ ls) =
    (if is_word_of t l.word
    then Replace (concat (l.gaps ++ l.word)) []
    else Keep (concat (l.gaps ++ l.word)))
    ∷ pieces_after t ls

-- the blanks and folds before the first word
abbrev pub first_gaps : List LedWord → List (List Cell)
first_gaps [] = []
first_gaps (l ∷ ls) = l.gaps

-- The words of a value as pieces. A word that goes, before which no word stays, does so with the
-- blanks and folds directly after it.
abbrev pub remove_word_pieces : (word : List ℕ) → List LedWord → List Piece
remove_word_pieces t [] = []
remove_word_pieces t (l ∷ ls) =
    if is_word_of t l.word
    then Replace (concat (l.word ++ first_gaps ls)) [] ∷ remove_word_pieces t ls
    else Keep (concat l.word) ∷ pieces_after t ls

-- the spans of the words that go; if no word stays, the span of the value with the blanks and folds
-- after it, as of a value that is set to the empty one
abbrev pub remove_word_spans : (word : List ℕ) → (line_start : ℕ) → Assignment Cell
    → List Replacement
remove_word_spans t at a =
    if is_empty (staying t (led_words a.value)) then set_value_span [] at a ∷ [] else
    replacements (value_start at a) (remove_word_pieces t (led_words a.value))

-- ---- a change of a value

-- whether the change does something to the value of an assignment's line: a value is set in the place
-- of one where it is that one, a word is added where it is no word of the value, and removed where it
-- is one
abbrev pub has_effect : ValueChange → Option (Class Cell) → Bool
has_effect (SetIf o v) None = false
has_effect (SetIf o v) (Some k) = has_value o k
has_effect (Add w) k = not (assignment_passes (has_value_word w) k)
has_effect (Remove w) k = assignment_passes (has_value_word w) k
has_effect c k = true

-- whether a line of this class is changed: it assigns the name, and the change does something to its
-- value; and whether a line is
abbrev pub is_class_changed : (name : List ℕ) → ValueChange → Class Cell → Bool
is_class_changed n c k = assigns n k && has_effect c (Some k)

abbrev pub is_changed : (name : List ℕ) → ValueChange → ClassedLine → Bool
is_changed n c l = is_class_changed n c l.class

-- the spans of a value that is changed
abbrev pub change_spans : ValueChange → (line_start : ℕ) → Assignment Cell → List Replacement
change_spans (Set v) at a = set_value_span v at a ∷ []
change_spans (SetIf o v) at a = set_value_span v at a ∷ []
change_spans (Append v) at a = append_value_span v at a ∷ []
change_spans (Add w) at a = append_value_span w at a ∷ []
change_spans (Remove w) at a = remove_word_spans w at a

-- the spans in a line of this class; the line begins at this offset
abbrev pub changed_line_spans : (name : List ℕ) → ValueChange → (line_start : ℕ) → Class Cell
    → List Replacement
changed_line_spans n c at k =
    if is_class_changed n c k then assignment_spans (change_spans c) at k else []
