-- An accepted new prerequisite is put last in its list, and no other item changes.
use Rattle.std.proofs.Common.{◌≡◌, refl, sym, ap, ◌∙◌, subst, ℕ, List, [], ◌∷◌, ◌++◌, map, Bool, true, false, not, ◌&&◌, ◌||◌, cond, append_assoc, length}
use Rattle.std.proofs.lemmas.List.{append-nil, map-append}
use Rattle.std.proofs.lemmas.Bool.{or_parts}
use Rattle.std.specs.Prelude.{◌⊎◌, nat_lt, codes}
use mathlib.Core.Logic.{inl, inr}
use Rattle.mk_lines.specs.Lists.{concat}
use Rattle.mk_lines.proofs.on_lists.ListLemmas.{Each-append, concat-append}
use Rattle.mk_lines.specs.Cells.{Cell, Byte, joined_byte, line_cells}
use Rattle.mk_lines.specs.Pieces.{replaced, old_cells, new_cells, replacements}
use Rattle.mk_lines.proofs.on_cells.LineCells.{AreLineCells, AreLineCells-none, AreLineCells-left, AreLineCells-right, bytes-are_line_cells}
use Rattle.mk_lines.proofs.on_units.UnitLemmas.{concat-units}
use Rattle.mk_lines.specs.Words.{tokens, is_gap}
use Rattle.mk_class.specs.ListTests.{is_empty, first_passes, last_passes}
use Rattle.mk_class.specs.Texts.{word_texts}
use Rattle.mk_class.specs.Headers
use Rattle.mk_class.specs.Headers.{header_units}
use Rattle.mk_class.specs.HeaderFits.{FitsBar}
use Rattle.mk_class.specs.Classes.Class.{Header}
use Rattle.mk_class.specs.ClassedLines.{ClassedLine, classed_lines}
use Rattle.mk_tree.specs.LineTexts.{text_of, context_of}
use Rattle.mk_tree.proofs.on_documents.LinesInText.{line-in_text}
use Rattle.mk_tree.specs.Items
use Rattle.mk_tree.specs.Items.{header_item, raw_units}
use Rattle.mk_edit_language.specs.WordPieces.{add_pieces, normal_pieces, header_pieces, prerequisite_text, put_last, kept}
use Rattle.mk_edit_language.specs.Changes.{with_prerequisite}
use Rattle.mk_edit_language.proofs.on_lines.HeadUnits.{AllAre, AllAre-append, AllAre-left, AllAre-right, EndsSolid, EndsSolid-after, line_cells-after_solid}
use Rattle.mk_edit_language.proofs.on_lines.LineTails.{EndsAs, EndsAs-after}
use Rattle.mk_edit_language.proofs.on_lines.HeadWords.{gap-last, last-more}
use Rattle.mk_edit_language.proofs.on_lines.DirectiveWords.{alike-itself}
use Rattle.mk_edit_language.proofs.on_lines.HeaderParts.{IsPartUnit, part-head, HeaderKnown, is_bar_glued, is_no_gap, FitIn, with_parts, bar-is, bar-solid}
use Rattle.mk_edit_language.proofs.on_lines.HeaderChanges.{middle_units, header-cells, FitAsCells, header-here, same-not_led}
use Rattle.mk_edit_language.proofs.on_lines.LineReplaced.{IsLineReplaced, replaced-same}
use Rattle.mk_edit_language.proofs.on_prerequisites.HeaderEdits.{header_pieces-new, header_pieces-whole, kept-old, kept-new, header-replaced, lists-end, list-cells}
use Rattle.mk_edit_language.proofs.on_prerequisites.NewWords.{IsNewWord, cell_units}
use Rattle.mk_edit_language.proofs.on_prerequisites.WordsAdded.{AreGapUnits, gap_units-end, front_units, gaps_after, front-gaps, gaps-are_gaps, front-words, front-cells, words-before_gaps, space_unit, space-part, units-end, put_units, put-parts, put-words, put-cells, put-ends, word-ends, front-solid}

-- ---- pieces

-- the cells of a text put after the last word
put_last-new : (t : List ℕ) (us : List (List Cell)) → new_cells (put_last t us) ≡ concat (front_units us) ++ (map Byte t ++ concat (gaps_after us))
put_last-new t us = ap (λ z. concat (front_units us) ++ (map Byte t ++ z)) (append-nil (concat (gaps_after us)))

pub put_last-old : (t : List ℕ) (us : List (List Cell)) → old_cells (put_last t us) ≡ concat us
put_last-old t us = ap (λ z. concat (front_units us) ++ z) (append-nil (concat (gaps_after us))) ∙ sym (front-cells us)

-- a space and a word with gaps, as cells
put-text : (w : List ℕ) (us G : List (List Cell)) → concat (put_units w us G) ≡ concat (front_units us) ++ (Byte 32 ∷ (map Byte w ++ concat G))
put-text w us G =
    concat-append (front_units us) (space_unit ∷ (cell_units w ++ G))
    ∙ ap (λ z. concat (front_units us) ++ (Byte 32 ∷ z)) (concat-append (cell_units w) G ∙ ap (λ z. z ++ concat G) (concat-units joined_byte (map Byte w)))

-- the parts of the gaps at the end
gaps-parts : (us : List (List Cell)) → AllAre IsPartUnit us → AllAre IsPartUnit (gaps_after us)
gaps-parts us h = AllAre-right IsPartUnit (front_units us) (gaps_after us) (subst (AllAre IsPartUnit) (sym (front-gaps us)) h)

gaps-cells : (us : List (List Cell)) → AreLineCells (concat us) → AreLineCells (concat (gaps_after us))
gaps-cells us h = AreLineCells-right (concat (front_units us)) (concat (gaps_after us)) (subst AreLineCells (front-cells us) h)

-- ---- a normal prerequisite

-- the space before a `|` that follows directly
abbrev extra_space : (h : Headers.Header Cell) → List (List Cell)
extra_space h = cond (is_empty (gaps_after h.normal) && not (is_empty h.bar)) (space_unit ∷ []) []

abbrev normal_with : (word : List ℕ) → Headers.Header Cell → List (List Cell)
normal_with w h = put_units w h.normal (extra_space h ++ gaps_after h.normal)

extra-known : (g b : List (List Cell)) → AreGapUnits (cond (is_empty g && not (is_empty b)) (space_unit ∷ []) []) × AllAre IsPartUnit (cond (is_empty g && not (is_empty b)) (space_unit ∷ []) [])
extra-known [] [] = (tt, tt)
extra-known [] (b ∷ bs) = ((refl, tt), (space-part, tt))
extra-known (g ∷ gs) b = (tt, tt)

-- the gaps after the new word may stand there
extra-cells : (g b : List (List Cell)) → AreLineCells (concat g) → AreLineCells (concat (cond (is_empty g && not (is_empty b)) (space_unit ∷ []) [] ++ g))
extra-cells [] [] h = h
extra-cells [] (b ∷ bs) h = bytes-are_line_cells (32 ∷ []) (refl, tt)
extra-cells (g ∷ gs) b h = h

-- if there is a `|`, the last unit is a gap
extra-last : (x g b : List (List Cell)) → AreGapUnits g → is_empty b ≡ false → last_passes is_no_gap (x ++ (cond (is_empty g && not (is_empty b)) (space_unit ∷ []) [] ++ g)) ≡ false
extra-last x [] [] k h = cc
extra-last x [] (b ∷ bs) k h = last-more is_no_gap x space_unit []
extra-last x (g ∷ gs) b k h = last-more is_no_gap x g gs ∙ gap-last (g ∷ gs) (all-last g gs k)
  where
    all-last : (g : List Cell) (gs : List (List Cell)) → AreGapUnits (g ∷ gs) → last_passes (is_gap joined_byte) (g ∷ gs) ≡ true
    all-last g [] k = k.0
    all-last g (x ∷ gs) k = all-last x gs k.1

extra-none : (g b : List (List Cell)) → b ≡ [] → cond (is_empty g && not (is_empty b)) (space_unit ∷ []) [] ++ g ≡ g
extra-none [] [] h = refl
extra-none [] (b ∷ bs) h = cc
extra-none (g ∷ gs) b h = refl

-- the text of the new word and the spaces
extra-text : (g b : List (List Cell)) → map Byte (cond (is_empty g && not (is_empty b)) (32 ∷ []) []) ≡ concat (cond (is_empty g && not (is_empty b)) (space_unit ∷ []) [])
extra-text [] [] = refl
extra-text [] (b ∷ bs) = refl
extra-text (g ∷ gs) b = refl

normal-fit : (c : Bool) (cs : List Cell) (h : Headers.Header Cell) (w : List ℕ) → IsNewWord w → HeaderKnown c cs h → FitIn h h.targets (normal_with w h) h.bar h.order_only
normal-fit c cs h w n k =
    let x = extra-known (gaps_after h.normal) h.bar in
    let gaps = Each-append (is_gap joined_byte) (extra_space h) (gaps_after h.normal) x.0 (gaps-are_gaps h.normal) in
    record {
      targets = k.targets;
      normal = put-parts w n h.normal (extra_space h ++ gaps_after h.normal) gaps k.normal (AllAre-append IsPartUnit (extra_space h) (gaps_after h.normal) x.1 (gaps-parts h.normal k.normal));
      order_only = k.order_only;
      bar_fits = k.fits.bar_fits;
      bar_apart = go (is_empty h.bar) refl k.bar_apart;
      targets_apart = k.fits.targets_apart;
      alike = alike-itself (tokens joined_byte h.targets);
    }
  where
    last : is_empty h.bar ≡ false → last_passes is_no_gap (normal_with w h) ≡ false
    last e =
        ap (last_passes is_no_gap) (ap (λ z. front_units h.normal ++ z) (sym (append_assoc (space_unit ∷ []) (cell_units w) (extra_space h ++ gaps_after h.normal))) ∙ sym (append_assoc (front_units h.normal) (space_unit ∷ cell_units w) (extra_space h ++ gaps_after h.normal)))
        ∙ extra-last (front_units h.normal ++ (space_unit ∷ cell_units w)) (gaps_after h.normal) h.bar (gaps-are_gaps h.normal) e

    go : (b : Bool) → is_empty h.bar ≡ b → (not b && (last_passes is_no_gap h.normal || first_passes is_no_gap h.order_only)) ≡ false
        → is_bar_glued (normal_with w h) h.bar h.order_only ≡ false
    go true e i = ap (λ z. not z && (last_passes is_no_gap (normal_with w h) || first_passes is_no_gap h.order_only)) e
    go false e i =
        ap (λ z. not z && (last_passes is_no_gap (normal_with w h) || first_passes is_no_gap h.order_only)) e
        ∙ (ap (λ z. z || first_passes is_no_gap h.order_only) (last e) ∙ (or_parts (last_passes is_no_gap h.normal) (first_passes is_no_gap h.order_only) i).1)

normal-fit_cells : (c : Bool) (cs : List Cell) (h : Headers.Header Cell) (w : List ℕ) → IsNewWord w → HeaderKnown c cs h → FitAsCells h h.targets (normal_with w h) h.bar h.order_only
normal-fit_cells c cs h w n k =
    let a = list-cells c cs h k in
    let x = extra-known (gaps_after h.normal) h.bar in
    let gaps = Each-append (is_gap joined_byte) (extra_space h) (gaps_after h.normal) x.0 (gaps-are_gaps h.normal) in
    record {
      targets = a.targets;
      normal = put-cells w n h.normal (extra_space h ++ gaps_after h.normal) gaps k.normal a.normal (extra-cells (gaps_after h.normal) h.bar (gaps-cells h.normal a.normal));
      order_only = a.order_only;
      ends = lists-end h.normal (normal_with w h) h.bar h.order_only h.order_only k.fits.bar_fits (λ e. e)
          (λ e. put-ends w n h.normal (extra_space h ++ gaps_after h.normal) gaps
          (subst (λ z. EndsAs (concat z) (concat (gaps_after h.normal))) (sym (extra-none (gaps_after h.normal) h.bar e)) (gap_units-end (gaps_after h.normal) (gaps-are_gaps h.normal))))
          (units-end h.order_only (part-head h.order_only k.order_only));
    }

normal-pieces_new : (h : Headers.Header Cell) (w : List ℕ) → new_cells (normal_pieces w h) ≡ concat (header_units (with_parts h h.targets (normal_with w h) h.bar h.order_only))
normal-pieces_new h w =
    let X = extra_space h in
    let G = gaps_after h.normal in
    let F = concat (front_units h.normal) in
    let text : map Byte (prerequisite_text w h) ≡ Byte 32 ∷ (map Byte w ++ concat X) =
    ap (λ z. Byte 32 ∷ z) (map-append Byte w (cond (is_empty G && not (is_empty h.bar)) (32 ∷ []) []) ∙ ap (λ z. map Byte w ++ z) (extra-text G h.bar)) in
    let n : new_cells (put_last (prerequisite_text w h) h.normal) ≡ concat (normal_with w h) =
    put_last-new (prerequisite_text w h) h.normal
    ∙ (ap (λ z. F ++ (z ++ concat G)) text
    ∙ (ap (λ z. F ++ (Byte 32 ∷ z)) (append_assoc (map Byte w) (concat X) (concat G) ∙ ap (λ z. map Byte w ++ z) (sym (concat-append X G))) ∙ sym (put-text w h.normal (X ++ G)))) in
    header_pieces-new h (kept h.targets) (put_last (prerequisite_text w h) h.normal) (kept h.order_only)
    ∙ (rw (kept-new h.targets, n, kept-new h.order_only) (sym (header-cells (with_parts h h.targets (normal_with w h) h.bar h.order_only))))

normal-item : (h : Headers.Header Cell) (w : List ℕ) → IsNewWord w → header_item (with_parts h h.targets (normal_with w h) h.bar h.order_only) ≡ with_prerequisite false w (header_item h)
normal-item h w n =
    let x = extra-known (gaps_after h.normal) h.bar in
    let gaps = Each-append (is_gap joined_byte) (extra_space h) (gaps_after h.normal) x.0 (gaps-are_gaps h.normal) in
    ap (λ z. Items.Header (word_texts joined_byte h.targets) h.separator (word_texts joined_byte h.pattern) z (word_texts joined_byte h.order_only) (raw_units (Headers.inline_recipe joined_byte h)))
    (put-words w n h.normal (extra_space h ++ gaps_after h.normal) gaps)

-- a header's line with a new normal prerequisite
normal-line : (t : List ℕ) (A : List ClassedLine) (l : ClassedLine) (B : List ClassedLine) (h : Headers.Header Cell) (w : List ℕ) → IsNewWord w → classed_lines t ≡ A ++ l ∷ B → l.class ≡ Header h
    → IsLineReplaced (replaced 0 t (replacements (length (text_of A)) (normal_pieces w h))) A B (with_prerequisite false w (header_item h))
normal-line t A l B h w n e k =
    let c = context_of A in
    let H = header-here c l.bytes h ((line-in_text t A l B e).class ∙ k) in
    let flag = nat_lt 0 c.conditionals in
    replaced-same _ _ A B _ _ refl (normal-item h w n)
    (header-replaced t A l B h (normal_pieces w h) h.targets (normal_with w h) h.bar h.order_only e k
    (header_pieces-whole h (kept h.targets) (put_last (prerequisite_text w h) h.normal) (kept h.order_only) (kept-old h.targets) (put_last-old (prerequisite_text w h) h.normal) (kept-old h.order_only))
    (normal-pieces_new h w) (normal-fit flag (line_cells l.bytes) h w n H.known) (normal-fit_cells flag (line_cells l.bytes) h w n H.known)
    (same-not_led c l.bytes h (normal_with w h) h.bar h.order_only H))

-- ---- an order-only prerequisite after a `|`

abbrev order_with : (word : List ℕ) → Headers.Header Cell → List (List Cell)
order_with w h = put_units w h.order_only (gaps_after h.order_only)

bar_fits-more : (B O O' : List (List Cell)) → is_empty B ≡ false → FitsBar joined_byte B O → FitsBar joined_byte B O'
bar_fits-more [] O O' e f = cc
bar_fits-more (b ∷ []) O O' e f = f
bar_fits-more (b ∷ c ∷ B) O O' e f = absurd f

first-kept : (w : List ℕ) (us : List (List Cell)) → first_passes is_no_gap us ≡ false → first_passes is_no_gap (put_units w us (gaps_after us)) ≡ false
first-kept w us h = go (front_units us) (front-gaps us)
  where
    go : (f : List (List Cell)) → f ++ gaps_after us ≡ us → first_passes is_no_gap (f ++ space_unit ∷ (cell_units w ++ gaps_after us)) ≡ false
    go [] e = refl
    go (u ∷ f) e = ap (first_passes is_no_gap) e ∙ h

order-fit : (c : Bool) (cs : List Cell) (h : Headers.Header Cell) (w : List ℕ) → IsNewWord w → is_empty h.bar ≡ false → HeaderKnown c cs h → FitIn h h.targets h.normal h.bar (order_with w h)
order-fit c cs h w n b k = record {
  targets = k.targets;
  normal = k.normal;
  order_only = put-parts w n h.order_only (gaps_after h.order_only) (gaps-are_gaps h.order_only) k.order_only (gaps-parts h.order_only k.order_only);
  bar_fits = bar_fits-more h.bar h.order_only (order_with w h) b k.fits.bar_fits;
  bar_apart =
      let p = or_parts (last_passes is_no_gap h.normal) (first_passes is_no_gap h.order_only) (ap (λ z. not z && (last_passes is_no_gap h.normal || first_passes is_no_gap h.order_only)) (sym b) ∙ k.bar_apart) in
      ap (λ z. not z && (last_passes is_no_gap h.normal || first_passes is_no_gap (order_with w h))) b
      ∙ (ap (λ z. z || first_passes is_no_gap (order_with w h)) p.0 ∙ first-kept w h.order_only p.1);
  targets_apart = k.fits.targets_apart;
  alike = alike-itself (tokens joined_byte h.targets);
}

-- how the prerequisites end with other order-only ones
order-end : (N B O O' : List (List Cell)) → FitsBar joined_byte B O → is_empty B ≡ false → EndsAs (concat O') (concat O) → EndsAs (concat N ++ (concat B ++ concat O')) (concat N ++ (concat B ++ concat O))
order-end N [] O O' f e o = cc
order-end N (b ∷ []) O O' f e o =
    let s : EndsSolid (concat N ++ concat (b ∷ [])) = EndsSolid-after (concat N) (concat (b ∷ [])) (subst (λ z. EndsSolid (concat (z ∷ []))) (sym (bar-is b f)) bar-solid.ends) in
    subst (λ z. EndsAs z (concat N ++ (concat (b ∷ []) ++ concat O))) (append_assoc (concat N) (concat (b ∷ [])) (concat O'))
    (subst (EndsAs ((concat N ++ concat (b ∷ [])) ++ concat O')) (append_assoc (concat N) (concat (b ∷ [])) (concat O))
    (EndsAs-after (concat N ++ concat (b ∷ [])) (concat N ++ concat (b ∷ [])) (concat O') (concat O) s o))
order-end N (b ∷ c ∷ B) O O' f e o = absurd f

order-fit_cells : (c : Bool) (cs : List Cell) (h : Headers.Header Cell) (w : List ℕ) → IsNewWord w → is_empty h.bar ≡ false → HeaderKnown c cs h → FitAsCells h h.targets h.normal h.bar (order_with w h)
order-fit_cells c cs h w n b k =
    let a = list-cells c cs h k in
    record {
      targets = a.targets;
      normal = a.normal;
      order_only = put-cells w n h.order_only (gaps_after h.order_only) (gaps-are_gaps h.order_only) k.order_only a.order_only (gaps-cells h.order_only a.order_only);
      ends = order-end h.normal h.bar h.order_only (order_with w h) k.fits.bar_fits b
          (put-ends w n h.order_only (gaps_after h.order_only) (gaps-are_gaps h.order_only) (gap_units-end (gaps_after h.order_only) (gaps-are_gaps h.order_only)));
    }

order-pieces_new : (h : Headers.Header Cell) (w : List ℕ)
    → new_cells (header_pieces h (kept h.targets) (kept h.normal) (put_last (32 ∷ w) h.order_only)) ≡ concat (header_units (with_parts h h.targets h.normal h.bar (order_with w h)))
order-pieces_new h w =
    let o : new_cells (put_last (32 ∷ w) h.order_only) ≡ concat (order_with w h) = put_last-new (32 ∷ w) h.order_only ∙ sym (put-text w h.order_only (gaps_after h.order_only)) in
    header_pieces-new h (kept h.targets) (kept h.normal) (put_last (32 ∷ w) h.order_only)
    ∙ (rw (kept-new h.targets, kept-new h.normal, o) (sym (header-cells (with_parts h h.targets h.normal h.bar (order_with w h)))))

order-item : (h : Headers.Header Cell) (w : List ℕ) → IsNewWord w → header_item (with_parts h h.targets h.normal h.bar (order_with w h)) ≡ with_prerequisite true w (header_item h)
order-item h w n =
    ap (λ z. Items.Header (word_texts joined_byte h.targets) h.separator (word_texts joined_byte h.pattern) (word_texts joined_byte h.normal) z (raw_units (Headers.inline_recipe joined_byte h)))
    (put-words w n h.order_only (gaps_after h.order_only) (gaps-are_gaps h.order_only))

-- a header's line, with a `|`, with a new order-only prerequisite
order-line : (t : List ℕ) (A : List ClassedLine) (l : ClassedLine) (B : List ClassedLine) (h : Headers.Header Cell) (w : List ℕ) → IsNewWord w → is_empty h.bar ≡ false → classed_lines t ≡ A ++ l ∷ B
    → l.class ≡ Header h
    → IsLineReplaced (replaced 0 t (replacements (length (text_of A)) (header_pieces h (kept h.targets) (kept h.normal) (put_last (32 ∷ w) h.order_only)))) A B (with_prerequisite true w (header_item h))
order-line t A l B h w n b e k =
    let c = context_of A in
    let H = header-here c l.bytes h ((line-in_text t A l B e).class ∙ k) in
    let flag = nat_lt 0 c.conditionals in
    replaced-same _ _ A B _ _ refl (order-item h w n)
    (header-replaced t A l B h (header_pieces h (kept h.targets) (kept h.normal) (put_last (32 ∷ w) h.order_only)) h.targets h.normal h.bar (order_with w h) e k
    (header_pieces-whole h (kept h.targets) (kept h.normal) (put_last (32 ∷ w) h.order_only) (kept-old h.targets) (kept-old h.normal) (put_last-old (32 ∷ w) h.order_only))
    (order-pieces_new h w) (order-fit flag (line_cells l.bytes) h w n b H.known) (order-fit_cells flag (line_cells l.bytes) h w n b H.known)
    (same-not_led c l.bytes h h.normal h.bar (order_with w h) H))

-- ---- the first order-only prerequisite, with its `|`

-- the normal prerequisites, with a space before the `|`
abbrev before_bar : Headers.Header Cell → List (List Cell)
before_bar h = front_units h.normal ++ space_unit ∷ []

-- the `|`
abbrev bar_unit : List Cell
bar_unit = Byte 124 ∷ []

-- the new prerequisite, and the gaps that ended the line
abbrev after_bar : (word : List ℕ) → Headers.Header Cell → List (List Cell)
after_bar w h = put_units w [] (gaps_after h.normal)

no_order : (B O : List (List Cell)) → is_empty B ≡ true → FitsBar joined_byte B O → (B ≡ []) × (O ≡ [])
no_order [] O e f = (refl, f)
no_order (b ∷ B) O e f = cc

bar-fit : (c : Bool) (cs : List Cell) (h : Headers.Header Cell) (w : List ℕ) → IsNewWord w → HeaderKnown c cs h → FitIn h h.targets (before_bar h) (bar_unit ∷ []) (after_bar w h)
bar-fit c cs h w n k = record {
  targets = k.targets;
  normal =
      AllAre-append IsPartUnit (front_units h.normal) (space_unit ∷ []) (AllAre-left IsPartUnit (front_units h.normal) (gaps_after h.normal) (subst (AllAre IsPartUnit) (sym (front-gaps h.normal)) k.normal)) (space-part, tt);
  order_only = put-parts w n [] (gaps_after h.normal) (gaps-are_gaps h.normal) tt (gaps-parts h.normal k.normal);
  bar_fits = refl;
  bar_apart = ap (λ z. z || false) (last-more is_no_gap (front_units h.normal) space_unit []);
  targets_apart = k.fits.targets_apart;
  alike = alike-itself (tokens joined_byte h.targets);
}

spaced-cells : (c : Bool) (cs : List Cell) (h : Headers.Header Cell) → HeaderKnown c cs h → AreLineCells (concat h.normal) → AreLineCells (concat (before_bar h))
spaced-cells c cs h k a =
    let front : AreLineCells (concat (front_units h.normal)) = AreLineCells-left (concat (front_units h.normal)) (concat (gaps_after h.normal)) (subst AreLineCells (front-cells h.normal) a) in
    subst AreLineCells (sym (concat-append (front_units h.normal) (space_unit ∷ []))) (go front (front-solid h.normal (part-head h.normal k.normal)))
  where
    space : AreLineCells (concat (space_unit ∷ []))
    space = bytes-are_line_cells (32 ∷ []) (refl, tt)

    go : AreLineCells (concat (front_units h.normal)) → (front_units h.normal ≡ []) ⊎ EndsSolid (concat (front_units h.normal)) → AreLineCells (concat (front_units h.normal) ++ concat (space_unit ∷ []))
    go front (inl e) = subst (λ z. AreLineCells (concat z ++ concat (space_unit ∷ []))) (sym e) space
    go front (inr s) = line_cells-after_solid (concat (front_units h.normal)) (concat (space_unit ∷ [])) front space s

bar-fit_cells : (c : Bool) (cs : List Cell) (h : Headers.Header Cell) (w : List ℕ) → IsNewWord w → is_empty h.bar ≡ true → HeaderKnown c cs h
    → FitAsCells h h.targets (before_bar h) (bar_unit ∷ []) (after_bar w h)
bar-fit_cells c cs h w n b k =
    let a = list-cells c cs h k in
    let z = no_order h.bar h.order_only b k.fits.bar_fits in
    let G = gaps_after h.normal in
    let X = concat (before_bar h) ++ concat (bar_unit ∷ []) in
    let new : X ++ concat (space_unit ∷ (cell_units w ++ G)) ≡ concat (before_bar h) ++ (concat (bar_unit ∷ []) ++ concat (after_bar w h)) = append_assoc (concat (before_bar h)) (concat (bar_unit ∷ [])) (concat (after_bar w h)) in
    let old : concat (front_units h.normal) ++ concat G ≡ concat h.normal ++ (concat h.bar ++ concat h.order_only) =
    sym (front-cells h.normal) ∙ (sym (append-nil (concat h.normal)) ∙ (ap (λ q. concat h.normal ++ (concat q ++ [])) (sym z.0) ∙ ap (λ q. concat h.normal ++ (concat h.bar ++ concat q)) (sym z.1))) in
    record {
      targets = a.targets;
      normal = spaced-cells c cs h k a.normal;
      order_only = put-cells w n [] G (gaps-are_gaps h.normal) tt AreLineCells-none (gaps-cells h.normal a.normal);
      ends = subst (λ q. EndsAs q (concat h.normal ++ (concat h.bar ++ concat h.order_only))) new (subst (EndsAs (X ++ concat (space_unit ∷ (cell_units w ++ G)))) old
          (word-ends w n [] G (gaps-are_gaps h.normal) X (concat (front_units h.normal)) (concat G) (gap_units-end G (gaps-are_gaps h.normal))));
    }

bar-pieces_new : (h : Headers.Header Cell) (w : List ℕ) → h.bar ≡ [] → h.order_only ≡ []
    → new_cells (header_pieces h (kept h.targets) (put_last (codes " | " ++ w) h.normal) (kept h.order_only)) ≡ concat (header_units (with_parts h h.targets (before_bar h) (bar_unit ∷ []) (after_bar w h)))
bar-pieces_new h w b o =
    let F = concat (front_units h.normal) in
    let G = concat (gaps_after h.normal) in
    let C = map Byte w in
    let n : new_cells (put_last (codes " | " ++ w) h.normal) ≡ F ++ (Byte 32 ∷ Byte 124 ∷ Byte 32 ∷ (C ++ G)) = put_last-new (codes " | " ++ w) h.normal in
    let p : concat (before_bar h) ≡ F ++ Byte 32 ∷ [] = concat-append (front_units h.normal) (space_unit ∷ []) in
    let q : concat (after_bar w h) ≡ Byte 32 ∷ (C ++ G) = put-text w [] (gaps_after h.normal) in
    let tail = concat h.tail in
    let e : (F ++ (Byte 32 ∷ Byte 124 ∷ Byte 32 ∷ (C ++ G))) ++ tail ≡ (F ++ Byte 32 ∷ []) ++ (Byte 124 ∷ ((Byte 32 ∷ (C ++ G)) ++ tail)) =
    append_assoc F (Byte 32 ∷ Byte 124 ∷ Byte 32 ∷ (C ++ G)) tail ∙ sym (append_assoc F (Byte 32 ∷ []) (Byte 124 ∷ ((Byte 32 ∷ (C ++ G)) ++ tail))) in
    header_pieces-new h (kept h.targets) (put_last (codes " | " ++ w) h.normal) (kept h.order_only)
    ∙ (ap (λ z. z ++ (concat (middle_units h) ++ (new_cells (put_last (codes " | " ++ w) h.normal) ++ (concat h.bar ++ (new_cells (kept h.order_only) ++ tail))))) (kept-new h.targets)
    ∙ (ap (λ z. concat h.targets ++ (concat (middle_units h) ++ z))
    (ap (λ z. z ++ (concat h.bar ++ (new_cells (kept h.order_only) ++ tail))) n
    ∙ (ap (λ z. (F ++ (Byte 32 ∷ Byte 124 ∷ Byte 32 ∷ (C ++ G))) ++ (concat z ++ (new_cells (kept h.order_only) ++ tail))) b
    ∙ (ap (λ z. (F ++ (Byte 32 ∷ Byte 124 ∷ Byte 32 ∷ (C ++ G))) ++ (new_cells (kept z) ++ tail)) o
    ∙ (e ∙ (ap (λ z. z ++ (Byte 124 ∷ ((Byte 32 ∷ (C ++ G)) ++ tail))) (sym p) ∙ ap (λ z. concat (before_bar h) ++ (Byte 124 ∷ (z ++ tail))) (sym q))))))
    ∙ sym (header-cells (with_parts h h.targets (before_bar h) (bar_unit ∷ []) (after_bar w h)))))

bar-item : (h : Headers.Header Cell) (w : List ℕ) → IsNewWord w → h.order_only ≡ [] → header_item (with_parts h h.targets (before_bar h) (bar_unit ∷ []) (after_bar w h)) ≡ with_prerequisite true w (header_item h)
bar-item h w n o =
    let recipe = raw_units (Headers.inline_recipe joined_byte h) in
    let normal : word_texts joined_byte (before_bar h) ≡ word_texts joined_byte h.normal =
    words-before_gaps (front_units h.normal) (space_unit ∷ []) (refl, tt) ∙ front-words h.normal in
    let order : word_texts joined_byte (after_bar w h) ≡ word_texts joined_byte h.order_only ++ w ∷ [] =
    put-words w n [] (gaps_after h.normal) (gaps-are_gaps h.normal) ∙ ap (λ z. word_texts joined_byte z ++ w ∷ []) (sym o) in
    ap (λ z. Items.Header (word_texts joined_byte h.targets) h.separator (word_texts joined_byte h.pattern) z (word_texts joined_byte (after_bar w h)) recipe) normal
    ∙ ap (λ z. Items.Header (word_texts joined_byte h.targets) h.separator (word_texts joined_byte h.pattern) (word_texts joined_byte h.normal) z recipe) order

-- a header's line, without a `|`, with a new order-only prerequisite
bar-line : (t : List ℕ) (A : List ClassedLine) (l : ClassedLine) (B : List ClassedLine) (h : Headers.Header Cell) (w : List ℕ) → IsNewWord w → is_empty h.bar ≡ true → classed_lines t ≡ A ++ l ∷ B
    → l.class ≡ Header h
    → IsLineReplaced (replaced 0 t (replacements (length (text_of A)) (header_pieces h (kept h.targets) (put_last (codes " | " ++ w) h.normal) (kept h.order_only)))) A B (with_prerequisite true w (header_item h))
bar-line t A l B h w n b e k =
    let c = context_of A in
    let H = header-here c l.bytes h ((line-in_text t A l B e).class ∙ k) in
    let flag = nat_lt 0 c.conditionals in
    let z = no_order h.bar h.order_only b H.known.fits.bar_fits in
    replaced-same _ _ A B _ _ refl (bar-item h w n z.1)
    (header-replaced t A l B h (header_pieces h (kept h.targets) (put_last (codes " | " ++ w) h.normal) (kept h.order_only)) h.targets (before_bar h) (bar_unit ∷ []) (after_bar w h) e k
    (header_pieces-whole h (kept h.targets) (put_last (codes " | " ++ w) h.normal) (kept h.order_only) (kept-old h.targets) (put_last-old (codes " | " ++ w) h.normal) (kept-old h.order_only))
    (bar-pieces_new h w z.0 z.1) (bar-fit flag (line_cells l.bytes) h w n H.known) (bar-fit_cells flag (line_cells l.bytes) h w n b H.known)
    (same-not_led c l.bytes h (before_bar h) (bar_unit ∷ []) (after_bar w h) H))

-- ---- the law

-- a header's line with a new prerequisite
pub add_prereq-line : (order : Bool) (t : List ℕ) (A : List ClassedLine) (l : ClassedLine) (B : List ClassedLine) (h : Headers.Header Cell) (w : List ℕ) → IsNewWord w → classed_lines t ≡ A ++ l ∷ B → l.class ≡ Header h
    → IsLineReplaced (replaced 0 t (replacements (length (text_of A)) (add_pieces order w h))) A B (with_prerequisite order w (header_item h))
add_prereq-line false t A l B h w n e k = normal-line t A l B h w n e k
add_prereq-line true t A l B h w n e k = go (is_empty h.bar) refl
  where
    go : (b : Bool) → is_empty h.bar ≡ b
        → IsLineReplaced (replaced 0 t (replacements (length (text_of A)) (cond b
        (header_pieces h (kept h.targets) (put_last (codes " | " ++ w) h.normal) (kept h.order_only))
        (header_pieces h (kept h.targets) (kept h.normal) (put_last (32 ∷ w) h.order_only))))) A B (with_prerequisite true w (header_item h))
    go true b = bar-line t A l B h w n b e k
    go false b = order-line t A l B h w n b e k
