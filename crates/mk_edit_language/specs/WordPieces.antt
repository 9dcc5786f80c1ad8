-- Edits of the words of a rule's line, as pieces of the line: cells that stay, and cells that a
-- text replaces.
-- Told in docs/EDITS.md, "Rules" and "Targets".
use Rattle.std.specs.Prelude.{ℕ, ◌&&◌, if◌then◌else◌, Bool, true, false, not, List, [], ◌∷◌, ◌++◌, codes}
use Rattle.std.specs.Str.{bytes_eq}
use Rattle.mk_lines.specs.Lists.{concat, trim_end, trailing}
use Rattle.mk_lines.specs.Cells.{Cell, joined_byte}
use Rattle.mk_lines.specs.Pieces.{Piece, Keep, Replace}
use Rattle.mk_lines.specs.Words.{Token, Gap, Word, tokens, is_gap}
use Rattle.mk_class.specs.ListTests.{is_empty}
use Rattle.mk_class.specs.Texts.{unit_text}
use Rattle.mk_class.specs.Headers.{Header}
use Rattle.mk_class.specs.Classes.{Class}
use Rattle.mk_class.specs.Classes.Class.{Header as HeaderLine, TargetAssign as TargetLine}

-- units that stay
abbrev pub kept : List (List Cell) → List Piece
kept us = Keep (concat us) ∷ []

-- ---- words

-- whether the units of a word are this text
abbrev pub is_word_of : List ℕ → List (List Cell) → Bool
is_word_of t w = bytes_eq (unit_text joined_byte w) t

-- tokens as pieces: each word that is the old one becomes the new one
abbrev pub renamed_tokens : (old new : List ℕ) → List (Token Cell) → List Piece
renamed_tokens o n [] = []
renamed_tokens o n (Gap u ∷ ts) = Keep u ∷ renamed_tokens o n ts
renamed_tokens o n (Word w ∷ ts) =
    (if is_word_of o w then Replace (concat w) n else Keep (concat w)) ∷ renamed_tokens o n ts

abbrev pub renamed_words : (old new : List ℕ) → List (List Cell) → List Piece
renamed_words o n us = renamed_tokens o n (tokens joined_byte us)

-- tokens as pieces: each word that is this one goes, with the blanks and folds directly before it;
-- `gaps` are the blanks and folds read so far
abbrev pub removed_tokens : (word : List ℕ) → (gaps : List Cell) → List (Token Cell) → List Piece
removed_tokens t g [] = Keep g ∷ []
removed_tokens t g (Gap u ∷ ts) = removed_tokens t (g ++ u) ts
removed_tokens t g (Word w ∷ ts) =
    (if is_word_of t w then Replace (g ++ concat w) [] else Keep (g ++ concat w))
    ∷ removed_tokens t [] ts

abbrev pub removed_words : (word : List ℕ) → List (List Cell) → List Piece
removed_words t us = removed_tokens t [] (tokens joined_byte us)

-- a text put after the last word; if there is no word, at the front
abbrev pub put_last : (text : List ℕ) → List (List Cell) → List Piece
put_last t us =
    Keep (concat (trim_end (is_gap joined_byte) us)) ∷ Replace [] t
    ∷ Keep (concat (trailing (is_gap joined_byte) us)) ∷ []

-- ---- the line of a header

-- the pieces of a header's line: those of the targets, of the normal and of the order-only
-- prerequisites; the rest is kept
abbrev pub header_pieces : Header Cell → (targets normal order_only : List Piece) → List Piece
header_pieces h t n o =
    t ++ (kept (h.colons ++ (h.pattern ++ h.second_colon)) ++ (n ++ (kept h.bar ++ (o
    ++ kept h.tail))))

-- the pieces in which each old target and each old prerequisite becomes the new word
abbrev pub rename_pieces : (old new : List ℕ) → Header Cell → List Piece
rename_pieces o n h =
    header_pieces h (renamed_words o n h.targets) (renamed_words o n h.normal)
    (renamed_words o n h.order_only)

-- the pieces in which each old prerequisite becomes the new word
abbrev pub replace_pieces : (old new : List ℕ) → Header Cell → List Piece
replace_pieces o n h =
    header_pieces h (kept h.targets) (renamed_words o n h.normal) (renamed_words o n h.order_only)

-- the pieces in which each prerequisite that is this word goes
abbrev pub remove_pieces : (word : List ℕ) → Header Cell → List Piece
remove_pieces w h =
    header_pieces h (kept h.targets) (removed_words w h.normal) (removed_words w h.order_only)

-- the text of a new normal prerequisite: a space and the word, and one more space if a `|` follows
-- directly
abbrev pub prerequisite_text : (word : List ℕ) → Header Cell → List ℕ
prerequisite_text w h =
    32 ∷ (w
    ++ (if is_empty (trailing (is_gap joined_byte) h.normal) && not (is_empty h.bar)
    then 32 ∷ []
    else []))

-- the pieces in which a word is put last among the normal prerequisites
abbrev pub normal_pieces : (word : List ℕ) → Header Cell → List Piece
normal_pieces w h =
    header_pieces h (kept h.targets) (put_last (prerequisite_text w h) h.normal) (kept h.order_only)

-- the pieces in which a word is put last among the order-only prerequisites; if there is no `|`,
-- one is put after the normal prerequisites
abbrev order_only_pieces : (word : List ℕ) → Header Cell → List Piece
order_only_pieces w h =
    if is_empty h.bar
    then header_pieces h (kept h.targets) (put_last (codes " | " ++ w) h.normal) (kept h.order_only)
    else header_pieces h (kept h.targets) (kept h.normal) (put_last (32 ∷ w) h.order_only)

-- the pieces in which a word is put last in one of the two lists of prerequisites
abbrev pub add_pieces : (order : Bool) → (word : List ℕ) → Header Cell → List Piece
add_pieces true w h = order_only_pieces w h
add_pieces false w h = normal_pieces w h

-- ---- the lines of a text

-- the pieces of a line that a rename makes: in a header, and in the targets of an assignment for
-- targets
abbrev pub renamed_pieces : (old new : List ℕ) → Class Cell → List Piece
renamed_pieces o n (HeaderLine h) = rename_pieces o n h
renamed_pieces o n (TargetLine a) = renamed_words o n a.targets
renamed_pieces o n k = []

-- whether a piece is replaced
abbrev pub is_replaced : Piece → Bool
is_replaced (Keep cs) = false
is_replaced (Replace cs v) = true
