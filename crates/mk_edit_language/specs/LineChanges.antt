-- What an edit that is checked by reading does to an assignment's line: the pieces of the line, what
-- the assignment is said to be after the edit, and whether the new line reads so.
-- Told in docs/EDITS.md, "Variables".
use Rattle.std.specs.Prelude.{ℕ, suc, zero, ◌-◌, if◌then◌else◌, Bool, true, false, not, ◌&&◌, ◌||◌, List, [], ◌∷◌, ◌++◌, map, take, drop, length, None}
use Rattle.std.specs.List.{list_any}
use Rattle.std.specs.Str.{bytes_eq}
use Rattle.mk_lines.specs.Lists.{concat, leading, after_leading, trim_end}
use Rattle.mk_lines.specs.LogicalLines.{logical_lines, is_open, ends_line}
use Rattle.mk_lines.specs.Cells.{Cell, Byte, joined_byte, joined_text, raw_text}
use Rattle.mk_lines.specs.Units.{units}
use Rattle.mk_lines.specs.Words.{Token, Gap, Word, tokens, is_gap}
use Rattle.mk_lines.specs.Pieces.{Replacement, replaced, Piece, Keep, Replace, new_cells, replacements}
use Rattle.mk_class.specs.ListTests.{is_empty}
use Rattle.mk_class.specs.Texts.{unit_text}
use Rattle.mk_class.specs.OperatorTexts.{operator_text}
use Rattle.mk_class.specs.Assignments.{Assignment, operator_length}
use Rattle.mk_class.specs.Classes.{Class}
use Rattle.mk_class.specs.Classes.Class.{Assign}
use Rattle.mk_class.specs.Contexts.{Context}
use Rattle.mk_class.specs.ClassTable.{class_of}
use Rattle.mk_class.specs.declared.assignment.Flavor.{Flavor}
use Rattle.mk_class.specs.declared.assignment.Modifier.{Modifier}
use Rattle.mk_class.specs.declared.assignment.Modifier.TheVariants.{Override, Export, Private}
use Rattle.mk_tree.specs.Items.{Assigned, Sets, assigned}
use Rattle.mk_edit_language.specs.Edits.{LineChange, Prepend, ReplaceWord, InsertWord, Substitute, SetOperator}
use Rattle.mk_edit_language.specs.WordPieces.{kept, is_word_of, renamed_words, is_replaced}
use Rattle.mk_edit_language.specs.declared.edit.Side.{Side}
use Rattle.mk_edit_language.specs.declared.edit.Side.TheVariants.{Before, After}

-- ---- the pieces of the line

-- a text put before a value, with a space between them if the value is not empty
abbrev prepend_pieces : (value : List ℕ) → List (List Cell) → List Piece
prepend_pieces v us = Replace [] (if is_empty us then v else v ++ 32 ∷ []) ∷ kept us

-- the blanks and folds before the first word
abbrev pub leading_gaps : List (Token Cell) → List Cell
leading_gaps [] = []
leading_gaps (Gap u ∷ ts) = u ++ leading_gaps ts
leading_gaps (Word w ∷ ts) = []

-- what separates a new word from the one beside which it goes: the blanks and folds on its side of
-- that word; if there are none, those on the other side; and if there are none either, a space
abbrev pub separator : (here there : List Cell) → List Cell
separator h t = if is_empty h then if is_empty t then Byte 32 ∷ [] else t else h

-- a word, with a new one on one side of it; `said` says what text a separator is
abbrev pub word_beside : Side → (said : List Cell → List ℕ) → (new : List ℕ)
    → (before word after : List Cell) → List Piece
word_beside Before f n b w a = Replace [] (n ++ f (separator b a)) ∷ Keep w ∷ []
word_beside After f n b w a = Keep w ∷ Replace [] (f (separator a b) ++ n) ∷ []

-- tokens as pieces, with a new word on one side of each word that is this one; `before` are the
-- blanks and folds directly before the tokens
abbrev pub tokens_beside : Side → (said : List Cell → List ℕ) → (word new : List ℕ)
    → (before : List Cell) → List (Token Cell) → List Piece
tokens_beside s f w n b [] = []
tokens_beside s f w n b (Gap u ∷ ts) = Keep u ∷ tokens_beside s f w n (b ++ u) ts
tokens_beside s f w n b (Word x ∷ ts) =
    (if is_word_of w x
    then word_beside s f n b (concat x) (leading_gaps ts)
    else Keep (concat x) ∷ [])
    ++ tokens_beside s f w n [] ts

-- whether cells, as they are read, begin with a text
abbrev pub begins_with : List ℕ → List Cell → Bool
begins_with t cs = bytes_eq (take (length t) (joined_text cs)) t

-- cells with each occurrence of a text replaced, from the left, none overlapping the one before;
-- `taken` counts the cells that still belong to the last occurrence
abbrev pub substituted : (from to : List ℕ) → (taken : ℕ) → List Cell → List Piece
substituted f t n [] = []
substituted f t (suc n) (c ∷ cs) = substituted f t n cs
substituted f t zero (c ∷ cs) =
    if begins_with f (c ∷ cs)
    then Replace (take (length f) (c ∷ cs)) t ∷ substituted f t (length f - 1) cs
    else Keep (c ∷ []) ∷ substituted f t zero cs

-- the pieces of the value; `said` says what text a separator of words is
abbrev pub value_pieces : (said : List Cell → List ℕ) → LineChange → (value : List (List Cell))
    → List Piece
value_pieces f (Prepend v) us = prepend_pieces v us
value_pieces f (ReplaceWord w v) us = renamed_words w v us
value_pieces f (InsertWord s w n) us = tokens_beside s f w n [] (tokens joined_byte us)
value_pieces f (Substitute x t) us = substituted x t 0 (concat us)
value_pieces f (SetOperator o) us = kept us

-- the units from the operator on, and the pieces of them with another operator
abbrev pub from_operator : Assignment Cell → List (List Cell)
from_operator a = after_leading (is_gap joined_byte) a.operator

abbrev operator_replaced : Flavor → Assignment Cell → List Piece
operator_replaced f a =
    kept (leading (is_gap joined_byte) a.operator)
    ++ Replace (concat (take (operator_length a.flavor) (from_operator a))) (operator_text f)
    ∷ kept (drop (operator_length a.flavor) (from_operator a))

-- the pieces of the operator and the blanks around it
abbrev pub operator_pieces : LineChange → Assignment Cell → List Piece
operator_pieces (SetOperator f) a = operator_replaced f a
operator_pieces c a = kept a.operator

-- the pieces of the line, up to the end of the value
abbrev pub line_pieces : LineChange → Assignment Cell → List Piece
line_pieces c a =
    kept (a.before ++ a.name) ++ (operator_pieces c a ++ value_pieces raw_text c a.value)

-- the spans in the line, which begins at this offset
abbrev pub line_change_spans : LineChange → (line_start : ℕ) → Assignment Cell → List Replacement
line_change_spans c at a = replacements at (line_pieces c a)

-- whether the edit changes the line: whether it finds its word or its text
abbrev pub is_line_changed : LineChange → Assignment Cell → Bool
is_line_changed c a = list_any is_replaced (line_pieces c a)

-- ---- what the assignment is after the edit

-- a text without the units at its two ends that are single blanks
abbrev pub trimmed : List ℕ → List ℕ
trimmed t =
    concat
    (trim_end (is_gap (λ b. b)) (after_leading (is_gap (λ b. b)) (units (λ b. b) t)))

-- a value without the blanks at its ends, if it is one in which a text is replaced
abbrev pub stated : LineChange → (value : List ℕ) → List ℕ
stated (Substitute f t) v = trimmed v
stated c v = v

-- the value: what the pieces say, with each fold as the space that it is read as
abbrev pub value_after : LineChange → (value : List (List Cell)) → List ℕ
value_after c us = stated c (joined_text (new_cells (value_pieces joined_text c us)))

abbrev pub flavor_after : LineChange → Flavor → Flavor
flavor_after (SetOperator o) f = o
flavor_after c f = f

abbrev pub assigned_after : LineChange → Assignment Cell → Assigned
assigned_after c a =
    Sets a.modifiers (unit_text joined_byte a.name) (flavor_after c a.flavor) (value_after c a.value)

-- ---- whether the new line reads so

abbrev pub modifier_number : Modifier → ℕ
modifier_number Override = 0
modifier_number Export = 1
modifier_number Private = 2

-- whether two assignments have the same parts
abbrev pub is_same_assigned : Assigned → Assigned → Bool
is_same_assigned (Sets m n f v) (Sets m' n' f' v') =
    bytes_eq (map modifier_number m) (map modifier_number m')
    && (bytes_eq n n' && (bytes_eq (operator_text f) (operator_text f') && bytes_eq v v'))

-- whether a line of this class reads as this assignment, and sets no recipe prefix
abbrev pub reads_as : Assigned → Class Cell → Bool
reads_as i (Assign a None) = is_same_assigned (assigned a) i
reads_as i k = false

abbrev pub is_one : List (List ℕ) → Bool
is_one (l ∷ []) = true
is_one ls = false

-- whether a line can stand in the place of another: it is one logical line, it ends a line if the
-- other does, and it is not open if the other is not
abbrev pub fits_line : (old new : List ℕ) → Bool
fits_line l m =
    is_one (logical_lines m)
    && ((not (ends_line l) || ends_line m) && (not (is_open m) || is_open l))

-- the line of this assignment with its spans replaced
abbrev pub line_after : LineChange → (line : List ℕ) → Assignment Cell → List ℕ
line_after c l a = replaced 0 l (line_change_spans c 0 a)

-- whether the new line, in the context of the old one, does not read as stated
abbrev pub is_misread : LineChange → Context → (line : List ℕ) → Class Cell → Bool
is_misread c context l (Assign a p) =
    not (fits_line l (line_after c l a)
    && reads_as (assigned_after c a) (class_of context (line_after c l a)))
is_misread c context l k = false
