-- The spans of a change of a value, by where the value stands in its line.
use Rattle.std.proofs.Common.{◌≡◌, refl, sym, ap, ◌∙◌, arith, ℕ, suc, ◌+◌, List, [], ◌∷◌, ◌++◌, Bool, true, false, if◌then◌else◌, length}
use Rattle.std.specs.Prelude.{◌==◌}
use Rattle.std.proofs.lemmas.Bool.{ne_eqb}
use Rattle.std.proofs.lemmas.List.{append-nil}
use Rattle.mk_lines.specs.Lists.{concat}
use Rattle.mk_lines.specs.Cells.{Cell}
use Rattle.mk_lines.specs.Pieces.{Keep, Replace, replacements}
use Rattle.mk_lines.specs.declared.split.Span.{Span}
use Rattle.mk_class.specs.ListTests.{is_empty}
use Rattle.mk_class.specs.Assignments.{Assignment, before_value}
use Rattle.mk_class.specs.PartOffsets.{raw_width}
use Rattle.mk_tree.proofs.on_changes.SpansInLines.{replacements-append}
use Rattle.mk_edit_language.specs.ValueChanges.{LedWord, append_value_span, first_gaps, led_words, pieces_after, remove_word_pieces, remove_word_spans, set_value_span, staying, value_end, value_start}
use Rattle.mk_edit_language.specs.WordPieces.{is_word_of}
use Rattle.mk_edit_language.proofs.on_lines.ClassParts.{raw_width-append}
use Rattle.mk_edit_parts.specs.ValuePieces.{line_without_pieces}
use Rattle.mk_edit.specs.ValueChangeLines.{space_after}
use Rattle.mk_edit.proofs.on_prerequisites.WordPlans.{PutNothing, nothing-append}
use Rattle.mk_edit.proofs.on_values.OwnLines.{IsValueText}
use Rattle.mk_edit.proofs.on_values.ValuePlaces.{IsValueRange}

-- ---- another value

-- a text is empty where it has no bytes
pub is_empty-length : (v : List ℕ) → is_empty v ≡ (length v == 0)
is_empty-length [] = refl
is_empty-length (b ∷ v) = sym (ne_eqb (suc (length v)) 0 (λ e. absurd (omega (arith, e))))

-- the span is the range of the value
pub set_value_span-range : (l : List ℕ) (a : Assignment Cell) (v : List ℕ) (at : ℕ) (r : Span) → IsValueRange l a (is_empty v) r
    → set_value_span v at a ≡ record { start = at + r.start; end = at + r.end; new = v }
set_value_span-range l a [] at r R =
    let i : at + raw_width (before_value a) ≡ at + r.start = omega (arith, R.start_is) in
    let j : at + raw_width (before_value a) + raw_width a.value + raw_width a.after ≡ at + r.end = omega (arith, R.end_is) in
    ap (λ (n : ℕ). record { start = n; end = at + raw_width (before_value a) + raw_width a.value + raw_width a.after; new = [] }) i ∙ ap (λ (n : ℕ). record { start = at + r.start; end = n; new = [] }) j
set_value_span-range l a (b ∷ v) at r R =
    let i : at + raw_width (before_value a) ≡ at + r.start = omega (arith, R.start_is) in
    let j : at + raw_width (before_value a) + raw_width a.value ≡ at + r.end = omega (arith, R.end_is) in
    ap (λ (n : ℕ). record { start = n; end = at + raw_width (before_value a) + raw_width a.value; new = b ∷ v }) i ∙ ap (λ (n : ℕ). record { start = at + r.start; end = n; new = b ∷ v }) j

-- ---- a text after the value

spaced : (b : Bool) (v : List ℕ) → (if b then v else 32 ∷ v) ≡ (if b then [] else 32 ∷ []) ++ v
spaced true v = refl
spaced false v = refl

-- the span is the empty range at the end of the value
pub append_value_span-range : (l : List ℕ) (a : Assignment Cell) (v text : List ℕ) (at : ℕ) (r : Span) → IsValueRange l a false r → IsValueText a text
    → append_value_span v at a ≡ record { start = at + r.end; end = at + r.end; new = space_after text ++ v }
append_value_span-range l a v text at r R T =
    let i : value_end at a ≡ at + r.end = omega (arith, R.end_is) in
    let w : (if is_empty a.value then v else 32 ∷ v) ≡ space_after text ++ v = ap (λ b. if b then v else 32 ∷ v) (sym T.empty_is) ∙ spaced (is_empty text) v in
    ap (λ (q : ℕ). record { start = q; end = q; new = if is_empty a.value then v else 32 ∷ v }) i ∙ ap (λ (z : List ℕ). record { start = at + r.end; end = at + r.end; new = z }) w

-- ---- a word less

-- its pieces put no bytes in
nothing-after : (w : List ℕ) (ls : List LedWord) → PutNothing (pieces_after w ls)
nothing-after w [] = tt
nothing-after w (l ∷ ls) = go (is_word_of w l.word) (nothing-after w ls)
  where
    go : (b : Bool) → PutNothing (pieces_after w ls) → PutNothing ((if b then Replace (concat (l.gaps ++ l.word)) [] else Keep (concat (l.gaps ++ l.word))) ∷ pieces_after w ls)
    go true h = (refl, h)
    go false h = h

nothing-first : (w : List ℕ) (ls : List LedWord) → PutNothing (remove_word_pieces w ls)
nothing-first w [] = tt
nothing-first w (l ∷ ls) = go (is_word_of w l.word) (nothing-first w ls)
  where
    go : (b : Bool) → PutNothing (remove_word_pieces w ls) → PutNothing (if b then Replace (concat (l.word ++ first_gaps ls)) [] ∷ remove_word_pieces w ls else Keep (concat l.word) ∷ pieces_after w ls)
    go true h = (refl, h)
    go false h = nothing-after w ls

pub line-nothing : (w : List ℕ) (a : Assignment Cell) (r : List Cell) → PutNothing (line_without_pieces w a r)
line-nothing w a r = go (is_empty (staying w (led_words a.value)))
  where
    go : (b : Bool) → PutNothing (if b then Replace (concat (a.value ++ a.after)) [] ∷ Keep r ∷ [] else remove_word_pieces w (led_words a.value) ++ Keep (concat a.after ++ r) ∷ [])
    go true = (refl, tt)
    go false = nothing-append (remove_word_pieces w (led_words a.value)) (Keep (concat a.after ++ r) ∷ []) (nothing-first w (led_words a.value)) tt

-- the replacements of the pieces are the spans of the value
pub line-spans : (at : ℕ) (w : List ℕ) (a : Assignment Cell) (r : List Cell) → remove_word_spans w at a ≡ replacements at (line_without_pieces w a r)
line-spans at w a r = go (is_empty (staying w (led_words a.value)))
  where
    go : (b : Bool) → (if b then set_value_span [] at a ∷ [] else replacements (value_start at a) (remove_word_pieces w (led_words a.value)))
        ≡ replacements (value_start at a) (if b then Replace (concat (a.value ++ a.after)) [] ∷ Keep r ∷ [] else remove_word_pieces w (led_words a.value) ++ Keep (concat a.after ++ r) ∷ [])
    go true = ap (λ n. record { start = value_start at a; end = n; new = [] } ∷ []) (omega (arith, raw_width-append a.value a.after))
    go false =
        let ps = remove_word_pieces w (led_words a.value) in
        sym (replacements-append (value_start at a) ps (Keep (concat a.after ++ r) ∷ []) ∙ append-nil (replacements (value_start at a) ps))
