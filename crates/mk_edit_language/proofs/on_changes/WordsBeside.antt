-- A new word beside others of a value: the cells before the change are those of the value.
use Rattle.std.proofs.Common.{◌≡◌, refl, ap, ◌∙◌, ℕ, List, [], ◌∷◌, ◌++◌, Bool, true, false, cond}
use Rattle.mk_lines.specs.Lists.{concat}
use Rattle.mk_lines.specs.Cells.{Cell}
use Rattle.mk_lines.specs.Pieces.{Keep, Piece, old_cells}
use Rattle.mk_lines.specs.Words.{Token, Gap, Word}
use Rattle.mk_lines.proofs.on_units.TokenLemmas.{token_text}
use Rattle.mk_edit_language.specs.LineChanges.{leading_gaps, word_beside, tokens_beside}
use Rattle.mk_edit_language.specs.WordPieces.{is_word_of}
use Rattle.mk_edit_language.specs.declared.edit.Side.{Side}
use Rattle.mk_edit_language.specs.declared.edit.Side.TheVariants.{Before, After}

word-old_cells : (s : Side) (f : List Cell → List ℕ) (n : List ℕ) (b w a : List Cell) (ps : List Piece) → old_cells (word_beside s f n b w a ++ ps) ≡ w ++ old_cells ps
word-old_cells Before f n b w a ps = refl
word-old_cells After f n b w a ps = refl

pub beside-old_cells : (s : Side) (f : List Cell → List ℕ) (w n : List ℕ) (b : List Cell) (ts : List (Token Cell)) → old_cells (tokens_beside s f w n b ts) ≡ token_text ts
beside-old_cells s f w n b [] = refl
beside-old_cells s f w n b (Gap u ∷ ts) = ap (λ z. u ++ z) (beside-old_cells s f w n (b ++ u) ts)
beside-old_cells s f w n b (Word x ∷ ts) = go (is_word_of w x) (beside-old_cells s f w n [] ts)
  where
    go : (c : Bool) → old_cells (tokens_beside s f w n [] ts) ≡ token_text ts
        → old_cells (cond c (word_beside s f n b (concat x) (leading_gaps ts)) (Keep (concat x) ∷ []) ++ tokens_beside s f w n [] ts) ≡ concat x ++ token_text ts
    go true h = word-old_cells s f n b (concat x) (leading_gaps ts) (tokens_beside s f w n [] ts) ∙ ap (λ z. concat x ++ z) h
    go false h = ap (λ z. concat x ++ z) h
