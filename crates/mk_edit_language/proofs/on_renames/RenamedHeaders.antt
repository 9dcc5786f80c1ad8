-- A header's line after a rename stands in the place of the old one: a line of class Header with the new word for each that was the old.
use Rattle.std.proofs.Common.{◌≡◌, refl, sym, ap, ◌∙◌, subst, ℕ, List, [], ◌∷◌, ◌++◌, map, Bool, true, false, not, ◌&&◌, cond, append_assoc}
use Rattle.std.specs.List.{list_any}
use Rattle.std.proofs.lemmas.List.{append-nil}
use Rattle.std.specs.Prelude.{nat_lt}
use Rattle.mk_lines.specs.Lists.{concat}
use Rattle.mk_lines.specs.PhysicalLines.{line_end, line_end_bytes}
use Rattle.mk_lines.specs.Cells.{Cell, joined_byte, raw_text, line_cells}
use Rattle.mk_lines.specs.Pieces.{Piece, Keep, Replace, old_cells, new_cells, old_bytes, new_bytes}
use Rattle.mk_lines.proofs.on_lists.PieceLemmas.{raw_text-old_cells, raw_text-new_cells}
use Rattle.mk_lines.proofs.on_cells.CellLemmas.{raw_text-append}
use Rattle.mk_lines.proofs.on_cells.LineCells.{AreLineCells}
use Rattle.mk_lines.proofs.on_lines.LineLemmas.{OneLine, EndsBefore}
use Rattle.mk_lines.specs.Words.{tokens, token_words, token_units, IsWord}
use Rattle.mk_lines.proofs.on_units.TokenLemmas.{token_text, token_units-tokens, token_text-tokens, tokens-are_tokens, tokens-token_units}
use Rattle.mk_class.specs.ListTests.{first_passes, last_passes}
use Rattle.mk_class.specs.Texts.{word_texts}
use Rattle.mk_class.specs.Symbols.{is_colon, is_ampersand}
use Rattle.mk_class.specs.Headers
use Rattle.mk_class.specs.Headers.{header_units}
use Rattle.mk_class.proofs.on_assignments.AssignmentLineLemmas.{led-same}
use Rattle.mk_class.specs.RecipePrefix.{is_prefix_led}
use Rattle.mk_class.specs.Contexts.{Context}
use Rattle.mk_class.specs.Keywords.{is_reserved_word}
use Rattle.mk_tree.specs.Items
use Rattle.mk_tree.specs.Items.{header_item, raw_units}
use Rattle.mk_edit_language.specs.AddressCauses.{begins_renamed_line}
use Rattle.mk_edit_language.specs.WordPieces.{renamed_words, rename_pieces, is_replaced, is_word_of}
use Rattle.mk_edit_language.specs.Changes.{rename_words, renamed_item}
use Rattle.mk_edit_language.proofs.on_lines.HeadUnits.{AllAre, IsHeadUnit, EndsSolid-after}
use Rattle.mk_edit_language.proofs.on_lines.LineTails.{EndsAs}
use Rattle.mk_edit_language.proofs.on_lines.HeadWords.{concat-token_units, first-word}
use Rattle.mk_edit_language.proofs.on_lines.DirectiveWords.{AlikeTokens}
use Rattle.mk_edit_language.proofs.on_lines.HeaderParts.{IsPartUnit, part-head, HeaderKnown, is_no_gap, FitIn, with_parts}
use Rattle.mk_edit_language.proofs.on_lines.HeaderChanges.{middle_units, middle-solid, header-cells, FitAsCells, HeaderHere, header-changed, IsHeaderWith, line_of, solid-bytes}
use Rattle.mk_edit_language.proofs.on_prerequisites.HeaderEdits.{header_pieces-new, header_pieces-whole, lists-end, list-cells, fits-bar_again}
use Rattle.mk_edit_language.proofs.on_prerequisites.RemovePrereqLemmas.{glued-apart}
use Rattle.mk_edit_language.proofs.on_prerequisites.NewWords.{IsNewWord, cell_units}
use Rattle.mk_edit_language.proofs.on_prerequisites.WordsAdded.{word-parts}
use Rattle.mk_edit_language.proofs.on_renames.WordsRenamed.{tokens_renamed, renamed-new_cells, renamed-old_cells, renamed-word_first, renamed-are_tokens, renamed-words, renamed-all, renamed-line_cells, renamed-ends, renamed-last, renamed-alike}

-- a new target: a word that is not reserved, whose last unit is no `&`
pub record IsNewTarget (o n : List ℕ) : Type 0 where
  pub word : IsNewWord n
  pub no_ampersand : last_passes (is_ampersand joined_byte) (cell_units n) ≡ false
  pub old_free : is_reserved_word o ≡ false
  pub new_free : is_reserved_word n ≡ false

-- units after a rename
abbrev pub renamed_units : (old new : List ℕ) → List (List Cell) → List (List Cell)
renamed_units o n us = token_units (tokens_renamed o n (tokens joined_byte us))

-- units after a new word comes in the place of an old one
module _ (o n : List ℕ) (word : IsNewWord n) (us : List (List Cell)) where
  pub renamed-parts : AllAre IsPartUnit us → AllAre IsPartUnit (renamed_units o n us)
  renamed-parts h = renamed-all o n word IsPartUnit (tokens joined_byte us) (word-parts n word) (subst (AllAre IsPartUnit) (sym (token_units-tokens joined_byte us)) h)

  -- the tokens are those renamed
  renamed-tokens : tokens joined_byte (renamed_units o n us) ≡ tokens_renamed o n (tokens joined_byte us)
  renamed-tokens = tokens-token_units joined_byte (tokens_renamed o n (tokens joined_byte us)) (renamed-are_tokens o n word (tokens joined_byte us) (tokens-are_tokens joined_byte us))

  pub renamed-texts : word_texts joined_byte (renamed_units o n us) ≡ rename_words o n (word_texts joined_byte us)
  renamed-texts = ap (λ z. map (map joined_byte) (token_words z)) renamed-tokens ∙ renamed-words o n word (tokens joined_byte us)

  pub renamed-cells : AreLineCells (concat us) → AreLineCells (concat (renamed_units o n us))
  renamed-cells a =
      subst AreLineCells (sym (concat-token_units (tokens_renamed o n (tokens joined_byte us))))
      (renamed-line_cells o n word [] (tokens joined_byte us) (subst AreLineCells (sym (token_text-tokens joined_byte us)) a))

  pub renamed-end : AllAre IsPartUnit us → EndsAs (concat (renamed_units o n us)) (concat us)
  renamed-end h =
      subst (λ z. EndsAs z (concat us)) (sym (concat-token_units (tokens_renamed o n (tokens joined_byte us))))
      (subst (EndsAs (token_text (tokens_renamed o n (tokens joined_byte us)))) (token_text-tokens joined_byte us)
      (renamed-ends o n word [] (tokens joined_byte us) tt (tokens-are_tokens joined_byte us) (subst (AllAre IsHeadUnit) (sym (token_units-tokens joined_byte us)) (part-head us h))))

  pub renamed-first_gap : first_passes is_no_gap us ≡ false → first_passes is_no_gap (renamed_units o n us) ≡ false
  renamed-first_gap h =
      let ts = tokens joined_byte us in
      let a = tokens-are_tokens joined_byte us in
      first-word (tokens_renamed o n ts) (renamed-are_tokens o n word ts a)
      ∙ (renamed-word_first o n word ts ∙ (sym (first-word ts a) ∙ (ap (first_passes is_no_gap) (token_units-tokens joined_byte us) ∙ h)))

  pub renamed-last_gap : last_passes is_no_gap us ≡ false → last_passes is_no_gap (renamed_units o n us) ≡ false
  renamed-last_gap h =
      renamed-last o n word is_no_gap (λ w i e. absurd (no_gap_last w i e)) (tokens joined_byte us) (tokens-are_tokens joined_byte us) (ap (last_passes is_no_gap) (token_units-tokens joined_byte us) ∙ h)
    where
      no_gap_last : (w : List (List Cell)) → IsWord joined_byte w → last_passes is_no_gap w ≡ false → ⊥
      no_gap_last [] i e = i
      no_gap_last (u ∷ []) i e = let k : true ≡ false = sym (ap not i) ∙ e in cc
      no_gap_last (u ∷ v ∷ w) i e = no_gap_last (v ∷ w) i.1 e

  pub renamed-old : old_cells (renamed_words o n us) ≡ concat us
  renamed-old = renamed-old_cells o n (tokens joined_byte us) ∙ token_text-tokens joined_byte us

  pub renamed-new : new_cells (renamed_words o n us) ≡ concat (renamed_units o n us)
  renamed-new = renamed-new_cells o n word (tokens joined_byte us) ∙ sym (concat-token_units (tokens_renamed o n (tokens joined_byte us)))

-- units after a rename
module _ (o n : List ℕ) (new : IsNewTarget o n) (us : List (List Cell)) where
  pub renamed-last_ampersand : last_passes (is_ampersand joined_byte) us ≡ false → last_passes (is_ampersand joined_byte) (renamed_units o n us) ≡ false
  renamed-last_ampersand h =
      renamed-last o n new.word (is_ampersand joined_byte) (λ w i e. word w e (is_word_of o w)) (tokens joined_byte us) (tokens-are_tokens joined_byte us)
      (ap (last_passes (is_ampersand joined_byte)) (token_units-tokens joined_byte us) ∙ h)
    where
      word : (w : List (List Cell)) → last_passes (is_ampersand joined_byte) w ≡ false → (c : Bool) → last_passes (is_ampersand joined_byte) (cond c (cell_units n) w) ≡ false
      word w e true = new.no_ampersand
      word w e false = e

  renamed-alike_tokens : AlikeTokens (tokens joined_byte us) (tokens joined_byte (renamed_units o n us))
  renamed-alike_tokens = subst (AlikeTokens (tokens joined_byte us)) (sym (renamed-tokens o n new.word us)) (renamed-alike o n new.word new.old_free new.new_free (tokens joined_byte us))

-- a header after a rename
abbrev pub header_renamed : (old new : List ℕ) → Headers.Header Cell → Headers.Header Cell
header_renamed o n h = with_parts h (renamed_units o n h.targets) (renamed_units o n h.normal) h.bar (renamed_units o n h.order_only)

-- if two tests do not both pass, the first fails if the second passes
pub and-right : (a b : Bool) → (a && b) ≡ false → (b ≡ true → a ≡ false)
and-right true b h e = let k : true ≡ false = sym e ∙ h in cc
and-right false b h e = refl

-- if the first of two tests fails whenever the second passes, they do not both pass
pub and-of : (a b : Bool) → (b ≡ true → a ≡ false) → (a && b) ≡ false
and-of true true h = h refl
and-of true false h = refl
and-of false b h = refl

renamed-fit : (o n : List ℕ) → IsNewTarget o n → (c : Bool) (cs : List Cell) (h : Headers.Header Cell) → HeaderKnown c cs h
    → FitIn h (renamed_units o n h.targets) (renamed_units o n h.normal) h.bar (renamed_units o n h.order_only)
renamed-fit o n new c cs h k = record {
  targets = renamed-parts o n new.word h.targets k.targets;
  normal = renamed-parts o n new.word h.normal k.normal;
  order_only = renamed-parts o n new.word h.order_only k.order_only;
  bar_fits = fits-bar_again h.bar h.order_only (renamed_units o n h.order_only) k.fits.bar_fits (λ e. ap (renamed_units o n) e);
  bar_apart = glued-apart h.normal (renamed_units o n h.normal) h.bar h.order_only (renamed_units o n h.order_only) (renamed-last_gap o n new.word h.normal) (renamed-first_gap o n new.word h.order_only) k.bar_apart;
  targets_apart =
      and-of (last_passes (is_ampersand joined_byte) (renamed_units o n h.targets)) (first_passes (is_colon joined_byte) h.colons)
      (λ e. renamed-last_ampersand o n new h.targets (and-right (last_passes (is_ampersand joined_byte) h.targets) (first_passes (is_colon joined_byte) h.colons) k.fits.targets_apart e));
  alike = renamed-alike_tokens o n new h.targets;
}

renamed-fit_cells : (o n : List ℕ) → IsNewTarget o n → (c : Bool) (cs : List Cell) (h : Headers.Header Cell) → HeaderKnown c cs h
    → FitAsCells h (renamed_units o n h.targets) (renamed_units o n h.normal) h.bar (renamed_units o n h.order_only)
renamed-fit_cells o n new c cs h k =
    let a = list-cells c cs h k in
    record {
      targets = renamed-cells o n new.word h.targets a.targets;
      normal = renamed-cells o n new.word h.normal a.normal;
      order_only = renamed-cells o n new.word h.order_only a.order_only;
      ends = lists-end h.normal (renamed_units o n h.normal) h.bar h.order_only (renamed_units o n h.order_only) k.fits.bar_fits (λ e. ap (renamed_units o n) e) (λ e. renamed-end o n new.word h.normal k.normal)
          (renamed-end o n new.word h.order_only k.order_only);
    }

-- the cells of the pieces of a rename
pub rename-pieces_old : (o n : List ℕ) → IsNewTarget o n → (h : Headers.Header Cell) → old_cells (rename_pieces o n h) ≡ concat (header_units h)
rename-pieces_old o n new h =
    header_pieces-whole h (renamed_words o n h.targets) (renamed_words o n h.normal) (renamed_words o n h.order_only)
    (renamed-old o n new.word h.targets) (renamed-old o n new.word h.normal) (renamed-old o n new.word h.order_only)

pub rename-pieces_new : (o n : List ℕ) → IsNewTarget o n → (h : Headers.Header Cell) → new_cells (rename_pieces o n h) ≡ concat (header_units (header_renamed o n h))
rename-pieces_new o n new h =
    header_pieces-new h (renamed_words o n h.targets) (renamed_words o n h.normal) (renamed_words o n h.order_only)
    ∙ (rw (renamed-new o n new.word h.targets, renamed-new o n new.word h.normal, renamed-new o n new.word h.order_only) (sym (header-cells (header_renamed o n h))))

-- the item of a header after a rename
pub rename-item : (o n : List ℕ) → IsNewTarget o n → (h : Headers.Header Cell) → header_item (header_renamed o n h) ≡ renamed_item o n (header_item h)
rename-item o n new h =
    let recipe = raw_units (Headers.inline_recipe joined_byte h) in
    ap (λ z. Items.Header z h.separator (word_texts joined_byte h.pattern) (word_texts joined_byte (renamed_units o n h.normal)) (word_texts joined_byte (renamed_units o n h.order_only)) recipe) (renamed-texts o n new.word h.targets)
    ∙ (ap (λ z. Items.Header (rename_words o n (word_texts joined_byte h.targets)) h.separator (word_texts joined_byte h.pattern) z (word_texts joined_byte (renamed_units o n h.order_only)) recipe) (renamed-texts o n new.word h.normal)
    ∙ ap (λ z. Items.Header (rename_words o n (word_texts joined_byte h.targets)) h.separator (word_texts joined_byte h.pattern) (rename_words o n (word_texts joined_byte h.normal)) z recipe) (renamed-texts o n new.word h.order_only))

-- ---- the front of the line

-- if no piece is replaced, the bytes stay
pub none-replaced : (ps : List Piece) → list_any is_replaced ps ≡ false → new_bytes ps ≡ old_bytes ps
none-replaced [] h = refl
none-replaced (Keep cs ∷ ps) h = ap (λ z. raw_text cs ++ z) (none-replaced ps h)
none-replaced (Replace cs v ∷ ps) h = absurd (cc)

-- the new line does not begin with the prefix if no line that the rename changes would
pub renamed-not_led : (prefix : ℕ) (ps : List Piece) (end : List ℕ) (x : ℕ) (y : List ℕ) → new_bytes ps ≡ x ∷ y → begins_renamed_line prefix ps ≡ false → is_prefix_led prefix (old_bytes ps ++ end) ≡ false
    → is_prefix_led prefix (new_bytes ps ++ end) ≡ false
renamed-not_led prefix ps end x y e h k = go (list_any is_replaced ps) refl h
  where
    go : (c : Bool) → list_any is_replaced ps ≡ c → (c && is_prefix_led prefix (new_bytes ps)) ≡ false → is_prefix_led prefix (new_bytes ps ++ end) ≡ false
    go true f i = led-same prefix (new_bytes ps) end [] x y e ∙ (ap (is_prefix_led prefix) (append-nil (new_bytes ps)) ∙ i)
    go false f i = ap (λ z. is_prefix_led prefix (z ++ end)) (none-replaced ps f) ∙ k

-- A header's line after a rename: one line, with the same line end, of class Header with the new word in the place of the old.
pub renamed-header : (o n : List ℕ) → IsNewTarget o n → (c : Context) (l : List ℕ) (below : List (List ℕ)) (h : Headers.Header Cell) → HeaderHere c l h → OneLine l → EndsBefore l below
    → begins_renamed_line c.prefix (rename_pieces o n h) ≡ false → IsHeaderWith c l below (header_renamed o n h)
renamed-header o n new c l below h H one ends led =
    let flag = nat_lt 0 c.conditionals in
    let ps = rename_pieces o n h in
    let end = line_end_bytes (line_end l) in
    let g = header_renamed o n h in
    let new_is : new_bytes ps ≡ raw_text (concat (header_units g)) = sym (raw_text-new_cells ps) ∙ ap raw_text (rename-pieces_new o n new h) in
    let old_is : old_bytes ps ≡ raw_text (concat (header_units h)) = sym (raw_text-old_cells ps) ∙ ap raw_text (rename-pieces_old o n new h) in
    let M = concat (middle_units h) in
    let T = concat (renamed_units o n h.targets) in
    let P = concat g.normal ++ (concat g.bar ++ (concat g.order_only ++ concat g.tail)) in
    let some = solid-bytes (T ++ M) (EndsSolid-after T M (middle-solid flag (line_cells l) h H.known).ends) in
    let filled : raw_text (concat (header_units g)) ≡ some.0 ∷ (some.1 ++ raw_text P) =
    ap raw_text (header-cells g ∙ sym (append_assoc T M P)) ∙ (raw_text-append (T ++ M) P ∙ ap (λ z. z ++ raw_text P) some.2) in
    let old_led : is_prefix_led c.prefix (old_bytes ps ++ end) ≡ false = ap (λ z. is_prefix_led c.prefix (z ++ end)) old_is ∙ (ap (is_prefix_led c.prefix) (sym H.whole) ∙ H.not_led) in
    let new_led : is_prefix_led c.prefix (line_of g end) ≡ false =
    ap (λ z. is_prefix_led c.prefix (z ++ end)) (sym new_is) ∙ renamed-not_led c.prefix ps end some.0 (some.1 ++ raw_text P) (new_is ∙ filled) led old_led in
    header-changed c l below h (renamed_units o n h.targets) (renamed_units o n h.normal) h.bar (renamed_units o n h.order_only) H one ends (renamed-fit o n new flag (line_cells l) h H.known) (renamed-fit_cells o n new flag (line_cells l) h H.known) new_led
