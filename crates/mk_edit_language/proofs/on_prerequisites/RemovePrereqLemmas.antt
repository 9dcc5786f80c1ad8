-- An accepted removal of a prerequisite removes the word from the header's lists, and no other item changes.
use Rattle.std.proofs.Common.{◌≡◌, refl, sym, ap, ◌∙◌, subst, ℕ, List, [], ◌∷◌, ◌++◌, map, Bool, true, false, length}
use Rattle.std.proofs.lemmas.Bool.{or_parts}
use Rattle.std.specs.Prelude.{◌⊎◌, nat_lt}
use mathlib.Core.Logic.{inl, inr}
use Rattle.mk_lines.specs.Lists.{concat}
use Rattle.mk_lines.specs.Cells.{Cell, joined_byte, line_cells}
use Rattle.mk_lines.specs.Pieces.{replaced, old_cells, new_cells, replacements}
use Rattle.mk_lines.proofs.on_cells.LineCells.{AreLineCells}
use Rattle.mk_lines.specs.Words.{tokens, token_words, token_units, is_word_first, is_gap}
use Rattle.mk_lines.proofs.on_units.TokenLemmas.{token_text, token_units-tokens, token_text-tokens, tokens-are_tokens, tokens-token_units}
use Rattle.mk_class.specs.ListTests.{first_passes, last_passes}
use Rattle.mk_class.specs.Texts.{word_texts}
use Rattle.mk_class.specs.Headers
use Rattle.mk_class.specs.Headers.{header_units}
use Rattle.mk_class.specs.Classes.Class.{Header}
use Rattle.mk_class.specs.ClassedLines.{ClassedLine, classed_lines}
use Rattle.mk_tree.specs.LineTexts.{text_of, context_of}
use Rattle.mk_tree.proofs.on_documents.LinesInText.{line-in_text}
use Rattle.mk_tree.specs.Items
use Rattle.mk_tree.specs.Items.{header_item, raw_units}
use Rattle.mk_edit_language.specs.WordPieces.{removed_words, remove_pieces, kept}
use Rattle.mk_edit_language.specs.Changes.{without_prerequisite, without_word}
use Rattle.mk_edit_language.proofs.on_lines.HeadUnits.{AllAre, IsHeadUnit}
use Rattle.mk_edit_language.proofs.on_lines.LineTails.{EndsAs}
use Rattle.mk_edit_language.proofs.on_lines.HeadWords.{concat-token_units, first-word, last-gap, gap-last}
use Rattle.mk_edit_language.proofs.on_prerequisites.WordsRemoved.{kept_tokens, removed-new_cells, removed-old_cells, kept-no_word_first, kept-are_tokens, kept-words, kept-all, kept-gap_last, kept-line_cells, kept-ends}
use Rattle.mk_edit_language.proofs.on_lines.DirectiveWords.{alike-itself}
use Rattle.mk_edit_language.proofs.on_lines.HeaderParts.{IsPartUnit, part-head, HeaderKnown, is_bar_glued, is_no_gap, FitIn, with_parts}
use Rattle.mk_edit_language.proofs.on_lines.HeaderChanges.{header-cells, FitAsCells, header-here, same-not_led}
use Rattle.mk_edit_language.proofs.on_lines.LineReplaced.{IsLineReplaced, replaced-same}
use Rattle.mk_edit_language.proofs.on_prerequisites.HeaderEdits.{header_pieces-new, header_pieces-whole, kept-old, kept-new, header-replaced, fits-bar_again, lists-end, list-cells}

-- ---- a list of prerequisites

-- the units of a list without a word
abbrev removed_units : (word : List ℕ) → List (List Cell) → List (List Cell)
removed_units w us = token_units (kept_tokens w [] (tokens joined_byte us))

module _ (w : List ℕ) (us : List (List Cell)) where
  removed-parts : AllAre IsPartUnit us → AllAre IsPartUnit (removed_units w us)
  removed-parts h = kept-all w IsPartUnit [] (tokens joined_byte us) tt (subst (AllAre IsPartUnit) (sym (token_units-tokens joined_byte us)) h)

  removed-words : word_texts joined_byte (removed_units w us) ≡ without_word w (word_texts joined_byte us)
  removed-words =
      ap (λ z. map (map joined_byte) (token_words z)) (tokens-token_units joined_byte (kept_tokens w [] (tokens joined_byte us)) (kept-are_tokens w [] (tokens joined_byte us) tt (tokens-are_tokens joined_byte us)))
      ∙ kept-words w [] (tokens joined_byte us) tt (tokens-are_tokens joined_byte us)

  heads : AllAre IsPartUnit us → AllAre IsHeadUnit (token_units (tokens joined_byte us))
  heads h = subst (AllAre IsHeadUnit) (sym (token_units-tokens joined_byte us)) (part-head us h)

  removed-cells : AllAre IsPartUnit us → AreLineCells (concat us) → AreLineCells (concat (removed_units w us))
  removed-cells h a =
      subst AreLineCells (sym (concat-token_units (kept_tokens w [] (tokens joined_byte us))))
      (kept-line_cells w [] (tokens joined_byte us) (tokens-are_tokens joined_byte us) (heads h) (subst AreLineCells (sym (token_text-tokens joined_byte us)) a))

  removed-end : AllAre IsPartUnit us → EndsAs (concat (removed_units w us)) (concat us)
  removed-end h =
      subst (λ z. EndsAs z (concat us)) (sym (concat-token_units (kept_tokens w [] (tokens joined_byte us))))
      (subst (EndsAs (token_text (kept_tokens w [] (tokens joined_byte us)))) (token_text-tokens joined_byte us) (kept-ends w [] (tokens joined_byte us) tt (tokens-are_tokens joined_byte us) (heads h)))

  removed-first : first_passes is_no_gap us ≡ false → first_passes is_no_gap (removed_units w us) ≡ false
  removed-first h =
      let ts = tokens joined_byte us in
      let k = kept_tokens w [] ts in
      let f : is_word_first ts ≡ false = sym (first-word ts (tokens-are_tokens joined_byte us)) ∙ (ap (first_passes is_no_gap) (token_units-tokens joined_byte us) ∙ h) in
      first-word k (kept-are_tokens w [] ts tt (tokens-are_tokens joined_byte us)) ∙ kept-no_word_first w [] ts tt (tokens-are_tokens joined_byte us) f

  removed-last : last_passes is_no_gap us ≡ false → last_passes is_no_gap (removed_units w us) ≡ false
  removed-last h = go (last-gap us h)
    where
      go : (us ≡ []) ⊎ (last_passes (is_gap joined_byte) us ≡ true) → last_passes is_no_gap (removed_units w us) ≡ false
      go (inl e) = ap (λ z. last_passes is_no_gap (removed_units w z)) e
      go (inr e) =
          gap-last (removed_units w us)
          (kept-gap_last w [] (tokens joined_byte us) (tokens-are_tokens joined_byte us) (ap (last_passes (is_gap joined_byte)) (token_units-tokens joined_byte us) ∙ e))

  pub removed-old : old_cells (removed_words w us) ≡ concat us
  removed-old = removed-old_cells w [] (tokens joined_byte us) ∙ token_text-tokens joined_byte us

  removed-new : new_cells (removed_words w us) ≡ concat (removed_units w us)
  removed-new = removed-new_cells w [] [] (tokens joined_byte us) refl ∙ sym (concat-token_units (kept_tokens w [] (tokens joined_byte us)))

-- ---- the header

-- a `|` stays a word by itself, if the list before it ends in a gap and the list after it begins with a gap as before
pub glued-apart : (N N' B O O' : List (List Cell)) → (last_passes is_no_gap N ≡ false → last_passes is_no_gap N' ≡ false) → (first_passes is_no_gap O ≡ false → first_passes is_no_gap O' ≡ false)
    → is_bar_glued N B O ≡ false → is_bar_glued N' B O' ≡ false
glued-apart N N' [] O O' f g h = refl
glued-apart N N' (b ∷ B) O O' f g h = let p = or_parts (last_passes is_no_gap N) (first_passes is_no_gap O) h in rw (f p.0, g p.1) refl

none-removed : (w : List ℕ) (O : List (List Cell)) → O ≡ [] → removed_units w O ≡ []
none-removed w O e = ap (removed_units w) e

-- a header without a word
abbrev without : (word : List ℕ) → Headers.Header Cell → Headers.Header Cell
without w h = with_parts h h.targets (removed_units w h.normal) h.bar (removed_units w h.order_only)

removed-fit : (c : Bool) (cs : List Cell) (h : Headers.Header Cell) (w : List ℕ) → HeaderKnown c cs h → FitIn h h.targets (removed_units w h.normal) h.bar (removed_units w h.order_only)
removed-fit c cs h w k = record {
  targets = k.targets;
  normal = removed-parts w h.normal k.normal;
  order_only = removed-parts w h.order_only k.order_only;
  bar_fits = fits-bar_again h.bar h.order_only (removed_units w h.order_only) k.fits.bar_fits (none-removed w h.order_only);
  bar_apart = glued-apart h.normal (removed_units w h.normal) h.bar h.order_only (removed_units w h.order_only) (removed-last w h.normal) (removed-first w h.order_only) k.bar_apart;
  targets_apart = k.fits.targets_apart;
  alike = alike-itself (tokens joined_byte h.targets);
}

removed-fit_cells : (c : Bool) (cs : List Cell) (h : Headers.Header Cell) (w : List ℕ) → HeaderKnown c cs h → FitAsCells h h.targets (removed_units w h.normal) h.bar (removed_units w h.order_only)
removed-fit_cells c cs h w k =
    let a = list-cells c cs h k in
    record {
      targets = a.targets;
      normal = removed-cells w h.normal k.normal a.normal;
      order_only = removed-cells w h.order_only k.order_only a.order_only;
      ends = lists-end h.normal (removed_units w h.normal) h.bar h.order_only (removed_units w h.order_only) k.fits.bar_fits (none-removed w h.order_only) (λ x. removed-end w h.normal k.normal) (removed-end w h.order_only k.order_only);
    }

removed-pieces_new : (h : Headers.Header Cell) (w : List ℕ) → new_cells (remove_pieces w h) ≡ concat (header_units (without w h))
removed-pieces_new h w =
    header_pieces-new h (kept h.targets) (removed_words w h.normal) (removed_words w h.order_only)
    ∙ (rw (kept-new h.targets, removed-new w h.normal, removed-new w h.order_only) (sym (header-cells (without w h))))

removed-item : (h : Headers.Header Cell) (w : List ℕ) → header_item (without w h) ≡ without_prerequisite w (header_item h)
removed-item h w =
    ap (λ z. Items.Header (word_texts joined_byte h.targets) h.separator (word_texts joined_byte h.pattern) z (word_texts joined_byte (removed_units w h.order_only)) (raw_units (Headers.inline_recipe joined_byte h))) (removed-words w h.normal)
    ∙ ap (λ z. Items.Header (word_texts joined_byte h.targets) h.separator (word_texts joined_byte h.pattern) (without_word w (word_texts joined_byte h.normal)) z (raw_units (Headers.inline_recipe joined_byte h))) (removed-words w h.order_only)

-- ---- the law

-- a header's line without a word
pub remove_prereq-line : (t : List ℕ) (A : List ClassedLine) (l : ClassedLine) (B : List ClassedLine) (h : Headers.Header Cell) (w : List ℕ) → classed_lines t ≡ A ++ l ∷ B → l.class ≡ Header h
    → IsLineReplaced (replaced 0 t (replacements (length (text_of A)) (remove_pieces w h))) A B (without_prerequisite w (header_item h))
remove_prereq-line t A l B h w e k =
    let c = context_of A in
    let H = header-here c l.bytes h ((line-in_text t A l B e).class ∙ k) in
    let cond = nat_lt 0 c.conditionals in
    replaced-same _ _ A B _ _ refl (removed-item h w)
    (header-replaced t A l B h (remove_pieces w h) h.targets (removed_units w h.normal) h.bar (removed_units w h.order_only) e k
    (header_pieces-whole h (kept h.targets) (removed_words w h.normal) (removed_words w h.order_only) (kept-old h.targets) (removed-old w h.normal) (removed-old w h.order_only))
    (removed-pieces_new h w) (removed-fit cond (line_cells l.bytes) h w H.known) (removed-fit_cells cond (line_cells l.bytes) h w H.known)
    (same-not_led c l.bytes h (removed_units w h.normal) h.bar (removed_units w h.order_only) H))
