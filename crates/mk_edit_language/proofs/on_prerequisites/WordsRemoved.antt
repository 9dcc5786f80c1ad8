-- Words taken out of units, each with the gaps directly before it: what stays is cut into words as before, and its cells join.
use Rattle.std.proofs.Common.{◌≡◌, refl, sym, ap, ◌∙◌, subst, ℕ, List, [], ◌∷◌, ◌++◌, map, Bool, true, false, not, cond, append_assoc}
use Rattle.std.proofs.lemmas.List.{append-nil}
use Rattle.std.specs.Prelude.{if◌then◌else◌}
use Rattle.mk_lines.specs.Lists.{concat}
use Rattle.mk_lines.specs.Cells.{Cell, joined_byte}
use Rattle.mk_lines.specs.Pieces.{Keep, Replace, old_cells, new_cells}
use Rattle.mk_lines.proofs.on_cells.LineCells.{AreLineCells, AreLineCells-left, AreLineCells-right}
use Rattle.mk_lines.specs.Words.{Token, Gap, Word, token_words, token_units, is_word_first, is_gap, IsWord, AreTokens}
use Rattle.mk_lines.proofs.on_units.TokenLemmas.{token_text}
use Rattle.mk_class.specs.ListTests.{last_passes}
use Rattle.mk_edit_language.specs.WordPieces.{is_word_of, removed_tokens}
use Rattle.mk_edit_language.specs.Changes.{without_word}
use Rattle.mk_edit_language.proofs.on_lines.HeadUnits.{AllAre, AllAre-append, AllAre-left, AllAre-right, IsHeadUnit, line_cells-after_solid, EndsSolid, EndsSolid-after}
use Rattle.mk_edit_language.proofs.on_lines.LineTails.{EndsAs, EndsAs-old, EndsAs-after}
use Rattle.mk_edit_language.proofs.on_lines.HeadWords.{token_text-append, token_units-append, AreGaps, IsGapToken, gaps-are_tokens, gaps-words, gaps-no_word_first, gaps-end, word-solid, word-no_gap_last, last-more, last-append, last-of_second}

-- the tokens that stay, `gaps` being those read so far
abbrev pub kept_tokens : (word : List ℕ) → (gaps : List (Token Cell)) → List (Token Cell) → List (Token Cell)
kept_tokens t g [] = g
kept_tokens t g (Gap u ∷ ts) = kept_tokens t (g ++ Gap u ∷ []) ts
kept_tokens t g (Word w ∷ ts) = if is_word_of t w then kept_tokens t [] ts else g ++ Word w ∷ kept_tokens t [] ts

module _ (t : List ℕ) where
  one_gap : (g : List (Token Cell)) (u : List Cell) → AreGaps g → is_gap joined_byte u ≡ true → AreGaps (g ++ Gap u ∷ [])
  one_gap g u h k = AllAre-append IsGapToken g (Gap u ∷ []) h (k, tt)

  gap_text : (gc : List Cell) (g : List (Token Cell)) (u : List Cell) → gc ≡ token_text g → gc ++ u ≡ token_text (g ++ Gap u ∷ [])
  gap_text gc g u h = ap (λ z. z ++ u) h ∙ (ap (λ z. token_text g ++ z) (sym (append-nil u)) ∙ sym (token_text-append g (Gap u ∷ [])))

  -- the cells that stay are those of these tokens
  pub removed-new_cells : (gc : List Cell) (g ts : List (Token Cell)) → gc ≡ token_text g → new_cells (removed_tokens t gc ts) ≡ token_text (kept_tokens t g ts)
  removed-new_cells gc g [] h = append-nil gc ∙ h
  removed-new_cells gc g (Gap u ∷ ts) h = removed-new_cells (gc ++ u) (g ++ Gap u ∷ []) ts (gap_text gc g u h)
  removed-new_cells gc g (Word w ∷ ts) h = go (is_word_of t w) (removed-new_cells [] [] ts refl)
    where
      go : (c : Bool) → new_cells (removed_tokens t [] ts) ≡ token_text (kept_tokens t [] ts)
          → new_cells (cond c (Replace (gc ++ concat w) []) (Keep (gc ++ concat w)) ∷ removed_tokens t [] ts) ≡ token_text (cond c (kept_tokens t [] ts) (g ++ Word w ∷ kept_tokens t [] ts))
      go true i = i
      go false i =
          ap (λ z. (gc ++ concat w) ++ z) i
          ∙ (append_assoc gc (concat w) (token_text (kept_tokens t [] ts))
          ∙ (ap (λ z. z ++ (concat w ++ token_text (kept_tokens t [] ts))) h ∙ sym (token_text-append g (Word w ∷ kept_tokens t [] ts))))

  -- the cells of the pieces are those of the old tokens
  pub removed-old_cells : (gc : List Cell) (ts : List (Token Cell)) → old_cells (removed_tokens t gc ts) ≡ gc ++ token_text ts
  removed-old_cells gc [] = refl
  removed-old_cells gc (Gap u ∷ ts) = removed-old_cells (gc ++ u) ts ∙ append_assoc gc u (token_text ts)
  removed-old_cells gc (Word w ∷ ts) = go (is_word_of t w) (removed-old_cells [] ts)
    where
      go : (c : Bool) → old_cells (removed_tokens t [] ts) ≡ token_text ts → old_cells (cond c (Replace (gc ++ concat w) []) (Keep (gc ++ concat w)) ∷ removed_tokens t [] ts) ≡ gc ++ (concat w ++ token_text ts)
      go true i = ap (λ z. (gc ++ concat w) ++ z) i ∙ append_assoc gc (concat w) (token_text ts)
      go false i = ap (λ z. (gc ++ concat w) ++ z) i ∙ append_assoc gc (concat w) (token_text ts)

  gap_first : (g ts : List (Token Cell)) (u : List Cell) → AreGaps g → is_word_first ((g ++ Gap u ∷ []) ++ ts) ≡ false
  gap_first [] ts u h = refl
  gap_first (Gap x ∷ g) ts u h = refl
  gap_first (Word w ∷ g) ts u h = absurd h.0

  -- no word comes first if none did before
  pub kept-no_word_first : (g ts : List (Token Cell)) → AreGaps g → AreTokens joined_byte ts → is_word_first (g ++ ts) ≡ false → is_word_first (kept_tokens t g ts) ≡ false
  kept-no_word_first g [] h a f = gaps-no_word_first g h
  kept-no_word_first g (Gap u ∷ ts) h a f = kept-no_word_first (g ++ Gap u ∷ []) ts (one_gap g u h a.0) a.1 (gap_first g ts u h)
  kept-no_word_first g (Word w ∷ ts) h a f = go (is_word_of t w) g h f (kept-no_word_first [] ts tt a.2 a.1)
    where
      go : (c : Bool) (g : List (Token Cell)) → AreGaps g → is_word_first (g ++ Word w ∷ ts) ≡ false → is_word_first (kept_tokens t [] ts) ≡ false
          → is_word_first (cond c (kept_tokens t [] ts) (g ++ Word w ∷ kept_tokens t [] ts)) ≡ false
      go true g h f i = i
      go false [] h f i = cc
      go false (Gap x ∷ g) h f i = refl
      go false (Word x ∷ g) h f i = absurd h.0

  -- what stays is cut into words again
  pub kept-are_tokens : (g ts : List (Token Cell)) → AreGaps g → AreTokens joined_byte ts → AreTokens joined_byte (kept_tokens t g ts)
  kept-are_tokens g [] h a = subst (AreTokens joined_byte) (append-nil g) (gaps-are_tokens g [] h tt)
  kept-are_tokens g (Gap u ∷ ts) h a = kept-are_tokens (g ++ Gap u ∷ []) ts (one_gap g u h a.0) a.1
  kept-are_tokens g (Word w ∷ ts) h a = go (is_word_of t w) (kept-are_tokens [] ts tt a.2)
    where
      go : (c : Bool) → AreTokens joined_byte (kept_tokens t [] ts) → AreTokens joined_byte (cond c (kept_tokens t [] ts) (g ++ Word w ∷ kept_tokens t [] ts))
      go true i = i
      go false i = gaps-are_tokens g (Word w ∷ kept_tokens t [] ts) h (a.0, kept-no_word_first [] ts tt a.2 a.1, i)

  -- the words that stay are the other words
  pub kept-words : (g ts : List (Token Cell)) → AreGaps g → AreTokens joined_byte ts → map (map joined_byte) (token_words (kept_tokens t g ts)) ≡ without_word t (map (map joined_byte) (token_words ts))
  kept-words g [] h a = ap (map (map joined_byte)) (ap token_words (sym (append-nil g)) ∙ gaps-words g [] h)
  kept-words g (Gap u ∷ ts) h a = kept-words (g ++ Gap u ∷ []) ts (one_gap g u h a.0) a.1
  kept-words g (Word w ∷ ts) h a = go (is_word_of t w) (kept-words [] ts tt a.2)
    where
      go : (c : Bool) → map (map joined_byte) (token_words (kept_tokens t [] ts)) ≡ without_word t (map (map joined_byte) (token_words ts))
          → map (map joined_byte) (token_words (cond c (kept_tokens t [] ts) (g ++ Word w ∷ kept_tokens t [] ts)))
          ≡ cond (not c) (map joined_byte (concat w) ∷ without_word t (map (map joined_byte) (token_words ts))) (without_word t (map (map joined_byte) (token_words ts)))
      go true i = i
      go false i = ap (map (map joined_byte)) (gaps-words g (Word w ∷ kept_tokens t [] ts) h) ∙ ap (λ z. map joined_byte (concat w) ∷ z) i

  -- what holds for each unit holds for each unit that stays
  pub kept-all : (P : List Cell → Type 0) (g ts : List (Token Cell)) → AllAre P (token_units g) → AllAre P (token_units ts) → AllAre P (token_units (kept_tokens t g ts))
  kept-all P g [] h a = h
  kept-all P g (Gap u ∷ ts) h a = kept-all P (g ++ Gap u ∷ []) ts (subst (AllAre P) (sym (token_units-append g (Gap u ∷ []))) (AllAre-append P (token_units g) (u ∷ []) h (a.0, tt))) a.1
  kept-all P g (Word w ∷ ts) h a = go (is_word_of t w) (kept-all P [] ts tt (AllAre-right P w (token_units ts) a))
    where
      go : (c : Bool) → AllAre P (token_units (kept_tokens t [] ts)) → AllAre P (token_units (cond c (kept_tokens t [] ts) (g ++ Word w ∷ kept_tokens t [] ts)))
      go true i = i
      go false i =
          subst (AllAre P) (sym (token_units-append g (Word w ∷ kept_tokens t [] ts)))
          (AllAre-append P (token_units g) (w ++ token_units (kept_tokens t [] ts)) h (AllAre-append P w (token_units (kept_tokens t [] ts)) (AllAre-left P w (token_units ts) a) i))

  -- the last unit is a gap where it was
  pub kept-gap_last : (g ts : List (Token Cell)) → AreTokens joined_byte ts → last_passes (is_gap joined_byte) (token_units g ++ token_units ts) ≡ true
      → last_passes (is_gap joined_byte) (token_units (kept_tokens t g ts)) ≡ true
  kept-gap_last g [] a h = ap (last_passes (is_gap joined_byte)) (sym (append-nil (token_units g))) ∙ h
  kept-gap_last g (Gap u ∷ ts) a h =
      kept-gap_last (g ++ Gap u ∷ []) ts a.1
      (ap (last_passes (is_gap joined_byte)) (ap (λ z. z ++ token_units ts) (token_units-append g (Gap u ∷ [])) ∙ append_assoc (token_units g) (u ∷ []) (token_units ts)) ∙ h)
  kept-gap_last g (Word w ∷ ts) a h = go (is_word_of t w) (kept-gap_last [] ts a.2 rest)
    where
      no_gap : last_passes (is_gap joined_byte) (token_units g ++ w) ≡ false
      no_gap = at w (word-no_gap_last w a.0) a.0
        where
          at : (w : List (List Cell)) → last_passes (is_gap joined_byte) w ≡ false → IsWord joined_byte w → last_passes (is_gap joined_byte) (token_units g ++ w) ≡ false
          at [] e i = absurd i
          at (x ∷ w) e i = last-more (is_gap joined_byte) (token_units g) x w ∙ e

      rest : last_passes (is_gap joined_byte) (token_units ts) ≡ true
      rest = last-of_second (is_gap joined_byte) (token_units g ++ w) (token_units ts) no_gap (ap (last_passes (is_gap joined_byte)) (append_assoc (token_units g) w (token_units ts)) ∙ h)

      go : (c : Bool) → last_passes (is_gap joined_byte) (token_units (kept_tokens t [] ts)) ≡ true
          → last_passes (is_gap joined_byte) (token_units (cond c (kept_tokens t [] ts) (g ++ Word w ∷ kept_tokens t [] ts))) ≡ true
      go true i = i
      go false i =
          ap (last_passes (is_gap joined_byte)) (token_units-append g (Word w ∷ kept_tokens t [] ts) ∙ sym (append_assoc (token_units g) w (token_units (kept_tokens t [] ts))))
          ∙ last-append (is_gap joined_byte) (token_units g ++ w) (token_units (kept_tokens t [] ts)) i

  -- the cells that stay join
  pub kept-line_cells : (g ts : List (Token Cell)) → AreTokens joined_byte ts → AllAre IsHeadUnit (token_units ts) → AreLineCells (token_text g ++ token_text ts) → AreLineCells (token_text (kept_tokens t g ts))
  kept-line_cells g [] a u h = subst AreLineCells (append-nil (token_text g)) h
  kept-line_cells g (Gap x ∷ ts) a u h =
      kept-line_cells (g ++ Gap x ∷ []) ts a.1 u.1
      (subst AreLineCells (sym (append_assoc (token_text g) x (token_text ts)) ∙ ap (λ z. z ++ token_text ts) (gap_text (token_text g) g x refl)) h)
  kept-line_cells g (Word w ∷ ts) a u h =
      go (is_word_of t w) (kept-line_cells [] ts a.2 (AllAre-right IsHeadUnit w (token_units ts) u) (AreLineCells-right (concat w) (token_text ts) (AreLineCells-right (token_text g) (concat w ++ token_text ts) h)))
    where
      go : (c : Bool) → AreLineCells (token_text (kept_tokens t [] ts)) → AreLineCells (token_text (cond c (kept_tokens t [] ts) (g ++ Word w ∷ kept_tokens t [] ts)))
      go true i = i
      go false i =
          let front : AreLineCells (token_text g ++ concat w) = AreLineCells-left (token_text g ++ concat w) (token_text ts) (subst AreLineCells (sym (append_assoc (token_text g) (concat w) (token_text ts))) h) in
          let s : EndsSolid (token_text g ++ concat w) = EndsSolid-after (token_text g) (concat w) (word-solid w a.0 (AllAre-left IsHeadUnit w (token_units ts) u)).ends in
          subst AreLineCells (append_assoc (token_text g) (concat w) (token_text (kept_tokens t [] ts)) ∙ sym (token_text-append g (Word w ∷ kept_tokens t [] ts)))
          (line_cells-after_solid (token_text g ++ concat w) (token_text (kept_tokens t [] ts)) front i s)

  -- the cells that stay end as the old ones did, or in a word, or there are none
  pub kept-ends : (g ts : List (Token Cell)) → AreGaps g → AreTokens joined_byte ts → AllAre IsHeadUnit (token_units ts) → EndsAs (token_text (kept_tokens t g ts)) (token_text g ++ token_text ts)
  kept-ends g [] h a u = subst (EndsAs (token_text g)) (sym (append-nil (token_text g))) (gaps-end g h)
  kept-ends g (Gap x ∷ ts) h a u =
      subst (EndsAs (token_text (kept_tokens t (g ++ Gap x ∷ []) ts))) (ap (λ z. z ++ token_text ts) (sym (gap_text (token_text g) g x refl)) ∙ append_assoc (token_text g) x (token_text ts))
      (kept-ends (g ++ Gap x ∷ []) ts (one_gap g x h a.0) a.1 u.1)
  kept-ends g (Word w ∷ ts) h a u = go (is_word_of t w) (kept-ends [] ts tt a.2 (AllAre-right IsHeadUnit w (token_units ts) u))
    where
      go : (c : Bool) → EndsAs (token_text (kept_tokens t [] ts)) (token_text ts)
          → EndsAs (token_text (cond c (kept_tokens t [] ts) (g ++ Word w ∷ kept_tokens t [] ts))) (token_text g ++ (concat w ++ token_text ts))
      go true i = EndsAs-old (token_text g) (token_text (kept_tokens t [] ts)) (concat w ++ token_text ts) (EndsAs-old (concat w) (token_text (kept_tokens t [] ts)) (token_text ts) i)
      go false i =
          let s : EndsSolid (token_text g ++ concat w) = EndsSolid-after (token_text g) (concat w) (word-solid w a.0 (AllAre-left IsHeadUnit w (token_units ts) u)).ends in
          let e = EndsAs-after (token_text g ++ concat w) (token_text g ++ concat w) (token_text (kept_tokens t [] ts)) (token_text ts) s i in
          subst (λ z. EndsAs z (token_text g ++ (concat w ++ token_text ts))) (append_assoc (token_text g) (concat w) (token_text (kept_tokens t [] ts)) ∙ sym (token_text-append g (Word w ∷ kept_tokens t [] ts)))
          (subst (EndsAs ((token_text g ++ concat w) ++ token_text (kept_tokens t [] ts))) (append_assoc (token_text g) (concat w) (token_text ts)) e)
