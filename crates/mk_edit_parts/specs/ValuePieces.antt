-- The line of an assignment without a word of its value, as pieces.
-- Told in docs/EDITS.md, "Variables".
use Rattle.std.specs.Prelude.{if◌then◌else◌, ℕ, List, [], ◌∷◌, ◌++◌}
use Rattle.mk_lines.specs.Lists.{concat}
use Rattle.mk_lines.specs.Cells.{Cell}
use Rattle.mk_lines.specs.Pieces.{Piece, Keep, Replace}
use Rattle.mk_class.specs.ListTests.{is_empty}
use Rattle.mk_class.specs.Assignments.{Assignment, before_value}
use Rattle.mk_edit_language.specs.ValueChanges.{led_words, staying, remove_word_pieces}

-- the value and what stands after it; `rest` are the cells after the blanks and folds that follow
-- the value. If no word stays, these blanks and folds go too.
abbrev pub value_without_pieces : (word : List ℕ) → Assignment Cell → (rest : List Cell)
    → List Piece
value_without_pieces w a r =
    if is_empty (staying w (led_words a.value))
    then Replace (concat (a.value ++ a.after)) [] ∷ Keep r ∷ []
    else remove_word_pieces w (led_words a.value) ++ Keep (concat a.after ++ r) ∷ []

-- the whole line, but for its line end
abbrev pub line_without_pieces : (word : List ℕ) → Assignment Cell → (rest : List Cell)
    → List Piece
line_without_pieces w a r = Keep (concat (before_value a)) ∷ value_without_pieces w a r
