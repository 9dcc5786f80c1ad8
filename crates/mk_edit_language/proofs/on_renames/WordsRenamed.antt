-- Words of units with another in the place of each that is one: the words are those with the new one, and the cells join.
use Rattle.std.proofs.Common.{◌≡◌, refl, sym, ap, ◌∙◌, subst, ℕ, List, [], ◌∷◌, ◌++◌, map, Bool, true, false, cond, append_assoc}
use Rattle.std.proofs.lemmas.List.{append-nil}
use Rattle.std.specs.Prelude.{if◌then◌else◌}
use Rattle.mk_lines.specs.Lists.{concat}
use Rattle.mk_lines.specs.Cells.{Cell, Byte, joined_byte}
use Rattle.mk_lines.specs.Pieces.{Keep, Replace, old_cells, new_cells}
use Rattle.mk_lines.proofs.on_cells.LineCells.{AreLineCells, AreLineCells-left, AreLineCells-right, bytes-are_line_cells}
use Rattle.mk_lines.proofs.on_units.UnitLemmas.{concat-units}
use Rattle.mk_lines.specs.Words.{Token, Gap, Word, token_words, token_units, is_word_first, IsWord, AreTokens}
use Rattle.mk_lines.proofs.on_units.TokenLemmas.{token_text}
use Rattle.mk_class.specs.ListTests.{last_passes}
use Rattle.mk_class.proofs.on_assignments.ValueLemmas.{clean-no_line_end}
use Rattle.mk_class.specs.Keywords.{keyword, is_reserved_word}
use Rattle.std.proofs.lemmas.Slice.Eq.{bytes_eq-Decides}
use Rattle.mk_edit_language.specs.WordPieces.{is_word_of, renamed_tokens}
use Rattle.mk_edit_language.specs.Changes.{rename_words}
use Rattle.mk_edit_language.proofs.on_lines.HeadUnits.{AllAre, AllAre-append, AllAre-left, AllAre-right, IsHeadUnit, BeginsSolid-before, EndsSolid, EndsSolid-after, line_cells-after_solid, line_cells-before_solid}
use Rattle.mk_edit_language.proofs.on_lines.LineTails.{EndsAs, EndsAs-after}
use Rattle.mk_edit_language.proofs.on_lines.HeadWords.{token_text-append, AreGaps, IsGapToken, gaps-end, word-solid, last-more}
use Rattle.mk_edit_language.proofs.on_lines.DirectiveWords.{AlikeTokens, is_modifier, not_reserved-keyword}
use Rattle.mk_edit_language.proofs.on_prerequisites.NewWords.{IsNewWord, cell_units, cell_units-text}
use Rattle.mk_edit_language.proofs.on_prerequisites.WordsAdded.{new_word-solid}

-- the units of a word after the rename
abbrev pub renamed_word : (old new : List ℕ) → List (List Cell) → List (List Cell)
renamed_word o n w = if is_word_of o w then cell_units n else w

-- the tokens after it
abbrev pub tokens_renamed : (old new : List ℕ) → List (Token Cell) → List (Token Cell)
tokens_renamed o n [] = []
tokens_renamed o n (Gap u ∷ ts) = Gap u ∷ tokens_renamed o n ts
tokens_renamed o n (Word w ∷ ts) = Word (renamed_word o n w) ∷ tokens_renamed o n ts

module _ (o n : List ℕ) where
  -- the cells before the rename are those of the tokens
  pub renamed-old_cells : (ts : List (Token Cell)) → old_cells (renamed_tokens o n ts) ≡ token_text ts
  renamed-old_cells [] = refl
  renamed-old_cells (Gap u ∷ ts) = ap (λ z. u ++ z) (renamed-old_cells ts)
  renamed-old_cells (Word w ∷ ts) = go (is_word_of o w) (renamed-old_cells ts)
    where
      go : (c : Bool) → old_cells (renamed_tokens o n ts) ≡ token_text ts → old_cells (cond c (Replace (concat w) n) (Keep (concat w)) ∷ renamed_tokens o n ts) ≡ concat w ++ token_text ts
      go true i = ap (λ z. concat w ++ z) i
      go false i = ap (λ z. concat w ++ z) i

module _ (o n : List ℕ) (new : IsNewWord n) where
  -- the cells after the rename are those of these tokens
  pub renamed-new_cells : (ts : List (Token Cell)) → new_cells (renamed_tokens o n ts) ≡ token_text (tokens_renamed o n ts)
  renamed-new_cells [] = refl
  renamed-new_cells (Gap u ∷ ts) = ap (λ z. u ++ z) (renamed-new_cells ts)
  renamed-new_cells (Word w ∷ ts) = go (is_word_of o w) (renamed-new_cells ts)
    where
      go : (c : Bool) → new_cells (renamed_tokens o n ts) ≡ token_text (tokens_renamed o n ts)
          → new_cells (cond c (Replace (concat w) n) (Keep (concat w)) ∷ renamed_tokens o n ts) ≡ concat (cond c (cell_units n) w) ++ token_text (tokens_renamed o n ts)
      go true i = ap (λ z. map Byte n ++ z) i ∙ ap (λ z. z ++ token_text (tokens_renamed o n ts)) (sym (concat-units joined_byte (map Byte n)))
      go false i = ap (λ z. concat w ++ z) i

  renamed-is_word : (w : List (List Cell)) → IsWord joined_byte w → IsWord joined_byte (renamed_word o n w)
  renamed-is_word w h = go (is_word_of o w)
    where
      go : (c : Bool) → IsWord joined_byte (cond c (cell_units n) w)
      go true = new.word
      go false = h

  -- no word comes first if none did before
  pub renamed-word_first : (ts : List (Token Cell)) → is_word_first (tokens_renamed o n ts) ≡ is_word_first ts
  renamed-word_first [] = refl
  renamed-word_first (Gap u ∷ ts) = refl
  renamed-word_first (Word w ∷ ts) = refl

  -- what there is then is cut into words again
  pub renamed-are_tokens : (ts : List (Token Cell)) → AreTokens joined_byte ts → AreTokens joined_byte (tokens_renamed o n ts)
  renamed-are_tokens [] a = tt
  renamed-are_tokens (Gap u ∷ ts) a = (a.0, renamed-are_tokens ts a.1)
  renamed-are_tokens (Word w ∷ ts) a = (renamed-is_word w a.0, renamed-word_first ts ∙ a.1, renamed-are_tokens ts a.2)

  -- the words after the rename are the old ones, with the new word in the place of each old one
  pub renamed-words : (ts : List (Token Cell)) → map (map joined_byte) (token_words (tokens_renamed o n ts)) ≡ rename_words o n (map (map joined_byte) (token_words ts))
  renamed-words [] = refl
  renamed-words (Gap u ∷ ts) = renamed-words ts
  renamed-words (Word w ∷ ts) = go (is_word_of o w) (renamed-words ts)
    where
      go : (c : Bool) → map (map joined_byte) (token_words (tokens_renamed o n ts)) ≡ rename_words o n (map (map joined_byte) (token_words ts))
          → map joined_byte (concat (cond c (cell_units n) w)) ∷ map (map joined_byte) (token_words (tokens_renamed o n ts))
          ≡ cond c n (map joined_byte (concat w)) ∷ rename_words o n (map (map joined_byte) (token_words ts))
      go true i = ap (λ z. z ∷ map (map joined_byte) (token_words (tokens_renamed o n ts))) (cell_units-text n) ∙ ap (λ z. n ∷ z) i
      go false i = ap (λ z. map joined_byte (concat w) ∷ z) i

  -- what holds for each unit, and for those of the new word, holds for each unit after the rename
  pub renamed-all : (P : List Cell → Type 0) (ts : List (Token Cell)) → AllAre P (cell_units n) → AllAre P (token_units ts) → AllAre P (token_units (tokens_renamed o n ts))
  renamed-all P [] p h = tt
  renamed-all P (Gap u ∷ ts) p h = (h.0, renamed-all P ts p h.1)
  renamed-all P (Word w ∷ ts) p h = AllAre-append P (renamed_word o n w) (token_units (tokens_renamed o n ts)) (go (is_word_of o w)) (renamed-all P ts p (AllAre-right P w (token_units ts) h))
    where
      go : (c : Bool) → AllAre P (cond c (cell_units n) w)
      go true = p
      go false = AllAre-left P w (token_units ts) h

  new-line_cells : AreLineCells (concat (cell_units n))
  new-line_cells = subst AreLineCells (sym (concat-units joined_byte (map Byte n))) (bytes-are_line_cells n (clean-no_line_end n new.clean))

  -- the cells join, whatever cells that stay stand before them
  pub renamed-line_cells : (g : List Cell) (ts : List (Token Cell)) → AreLineCells (g ++ token_text ts) → AreLineCells (g ++ token_text (tokens_renamed o n ts))
  renamed-line_cells g [] h = h
  renamed-line_cells g (Gap u ∷ ts) h =
      subst AreLineCells (append_assoc g u (token_text (tokens_renamed o n ts))) (renamed-line_cells (g ++ u) ts (subst AreLineCells (sym (append_assoc g u (token_text ts))) h))
  renamed-line_cells g (Word w ∷ ts) h =
      go (is_word_of o w) (λ k. renamed-line_cells (g ++ concat w) ts k) (renamed-line_cells [] ts (AreLineCells-right (concat w) (token_text ts) (AreLineCells-right g (concat w ++ token_text ts) h)))
    where
      go : (c : Bool) → (AreLineCells ((g ++ concat w) ++ token_text ts) → AreLineCells ((g ++ concat w) ++ token_text (tokens_renamed o n ts))) → AreLineCells (token_text (tokens_renamed o n ts))
          → AreLineCells (g ++ (concat (cond c (cell_units n) w) ++ token_text (tokens_renamed o n ts)))
      go true i r =
          let s = new_word-solid n new in
          let R = token_text (tokens_renamed o n ts) in
          line_cells-before_solid g (concat (cell_units n) ++ R) (AreLineCells-left g (concat w ++ token_text ts) h)
          (line_cells-after_solid (concat (cell_units n)) R new-line_cells r s.ends) (BeginsSolid-before (concat (cell_units n)) R s.begins)
      go false i r = subst AreLineCells (append_assoc g (concat w) (token_text (tokens_renamed o n ts))) (i (subst AreLineCells (sym (append_assoc g (concat w) (token_text ts))) h))

  gap_text : (g : List (Token Cell)) (u : List Cell) (r : List Cell) → token_text (g ++ Gap u ∷ []) ++ r ≡ token_text g ++ (u ++ r)
  gap_text g u r = ap (λ z. z ++ r) (token_text-append g (Gap u ∷ []) ∙ ap (λ z. token_text g ++ z) (append-nil u)) ∙ append_assoc (token_text g) u r

  -- the cells end as the old ones did, or in a word, or there are none
  pub renamed-ends : (g ts : List (Token Cell)) → AreGaps g → AreTokens joined_byte ts → AllAre IsHeadUnit (token_units ts) → EndsAs (token_text g ++ token_text (tokens_renamed o n ts)) (token_text g ++ token_text ts)
  renamed-ends g [] h a u = subst (λ z. EndsAs z z) (sym (append-nil (token_text g))) (gaps-end g h)
  renamed-ends g (Gap x ∷ ts) h a u =
      subst (λ z. EndsAs z (token_text g ++ (x ++ token_text ts))) (gap_text g x (token_text (tokens_renamed o n ts)))
      (subst (EndsAs (token_text (g ++ Gap x ∷ []) ++ token_text (tokens_renamed o n ts))) (gap_text g x (token_text ts))
      (renamed-ends (g ++ Gap x ∷ []) ts (AllAre-append IsGapToken g (Gap x ∷ []) h (a.0, tt)) a.1 u.1))
  renamed-ends g (Word w ∷ ts) h a u = go (is_word_of o w) (renamed-ends [] ts tt a.2 (AllAre-right IsHeadUnit w (token_units ts) u))
    where
      put : (w' : List (List Cell)) → EndsSolid (concat w') → EndsAs (token_text (tokens_renamed o n ts)) (token_text ts)
          → EndsAs (token_text g ++ (concat w' ++ token_text (tokens_renamed o n ts))) (token_text g ++ (concat w ++ token_text ts))
      put w' s i =
          subst (λ z. EndsAs z (token_text g ++ (concat w ++ token_text ts))) (append_assoc (token_text g) (concat w') (token_text (tokens_renamed o n ts)))
          (subst (EndsAs ((token_text g ++ concat w') ++ token_text (tokens_renamed o n ts))) (append_assoc (token_text g) (concat w) (token_text ts))
          (EndsAs-after (token_text g ++ concat w') (token_text g ++ concat w) (token_text (tokens_renamed o n ts)) (token_text ts) (EndsSolid-after (token_text g) (concat w') s) i))

      go : (c : Bool) → EndsAs (token_text (tokens_renamed o n ts)) (token_text ts)
          → EndsAs (token_text g ++ (concat (cond c (cell_units n) w) ++ token_text (tokens_renamed o n ts))) (token_text g ++ (concat w ++ token_text ts))
      go true i = put (cell_units n) (new_word-solid n new).ends i
      go false i = put w (word-solid w a.0 (AllAre-left IsHeadUnit w (token_units ts) u)).ends i

  -- the last unit does not pass a test if it did not before, provided that this is so for each word
  pub renamed-last : (p : List Cell → Bool) → ((w : List (List Cell)) → IsWord joined_byte w → last_passes p w ≡ false → last_passes p (renamed_word o n w) ≡ false)
      → (ts : List (Token Cell)) → AreTokens joined_byte ts → last_passes p (token_units ts) ≡ false → last_passes p (token_units (tokens_renamed o n ts)) ≡ false
  renamed-last p f [] a h = refl
  renamed-last p f (Gap u ∷ []) a h = h
  renamed-last p f (Gap u ∷ Gap x ∷ ts) a h = renamed-last p f (Gap x ∷ ts) a.1 h
  renamed-last p f (Gap u ∷ Word [] ∷ ts) a h = absurd a.1.0
  renamed-last p f (Gap u ∷ Word (v ∷ w) ∷ ts) a h = more (renamed_word o n (v ∷ w) ++ token_units (tokens_renamed o n ts)) (renamed-last p f (Word (v ∷ w) ∷ ts) a.1 h) (filled (renamed_word o n (v ∷ w)) (renamed-is_word (v ∷ w) a.1.0))
    where
      filled : (x : List (List Cell)) → IsWord joined_byte x → x ++ token_units (tokens_renamed o n ts) ≡ [] → ⊥
      filled [] i e = i
      filled (y ∷ x) i e = cc

      more : (r : List (List Cell)) → last_passes p r ≡ false → (r ≡ [] → ⊥) → last_passes p (u ∷ r) ≡ false
      more [] i e = absurd (e refl)
      more (y ∷ r) i e = i
  renamed-last p f (Word w ∷ []) a h = ap (last_passes p) (append-nil (renamed_word o n w)) ∙ f w a.0 (ap (last_passes p) (sym (append-nil w)) ∙ h)
  renamed-last p f (Word w ∷ Gap u ∷ ts) a h =
      last-more p (renamed_word o n w) u (token_units (tokens_renamed o n ts)) ∙ renamed-last p f (Gap u ∷ ts) a.2 (sym (last-more p w u (token_units ts)) ∙ h)
  renamed-last p f (Word w ∷ Word v ∷ ts) a h = absurd (let e : true ≡ false = a.1 in cc)

  -- the words before and after the rename say the same as first words
  pub renamed-alike : is_reserved_word o ≡ false → is_reserved_word n ≡ false → (ts : List (Token Cell)) → AlikeTokens ts (tokens_renamed o n ts)
  renamed-alike r s [] = tt
  renamed-alike r s (Gap u ∷ ts) = renamed-alike r s ts
  renamed-alike r s (Word w ∷ ts) = go (is_word_of o w) refl (renamed-alike r s ts)
    where
      go : (c : Bool) → is_word_of o w ≡ c → AlikeTokens ts (tokens_renamed o n ts)
          → (keyword (map joined_byte (concat w)) ≡ keyword (map joined_byte (concat (cond c (cell_units n) w)))) × (is_modifier (map joined_byte (concat w)) ≡ is_modifier (map joined_byte (concat (cond c (cell_units n) w)))) × AlikeTokens ts (tokens_renamed o n ts)
      go true e i =
          let old : map joined_byte (concat w) ≡ o = (bytes_eq-Decides (map joined_byte (concat w)) o).0 e in
          let a = not_reserved-keyword o r in
          let b = not_reserved-keyword n s in (
            ap keyword old ∙ (a.0 ∙ (sym b.0 ∙ ap keyword (sym (cell_units-text n)))),
            ap is_modifier old ∙ (a.1 ∙ (sym b.1 ∙ ap is_modifier (sym (cell_units-text n)))),
            i,
          )
      go false e i = (refl, refl, i)
