-- The spans of a change of a value, in a line by itself and in a line of a text: the same bytes come of them.
use Rattle.std.proofs.Common.{◌≡◌, refl, sym, ap, ◌∙◌, arith, ℕ, List, [], ◌∷◌, ◌++◌, Bool, true, false, cond, length, take, drop, ◌+◌, ◌-◌}
use Rattle.mk_lines.specs.Cells.{Cell, raw_text}
use Rattle.mk_lines.specs.Pieces.{Replacement, replaced, Piece, Keep, Replace, replacements}
use Rattle.mk_class.specs.ListTests.{is_empty}
use Rattle.mk_class.specs.Assignments.{Assignment}
use Rattle.mk_edit_language.specs.Edits.{ValueChange, Set, SetIf, Append, Add, Remove}
use Rattle.mk_edit_language.specs.ValueChanges.{value_start, value_end, blanks_end, set_value_span, append_value_span, led_words, staying, remove_word_pieces, remove_word_spans, change_spans}
use Rattle.mk_edit_language.proofs.on_edits.RisingSpanLemmas.{same_replacement}

-- replacements further on
abbrev shifted : ℕ → List Replacement → List Replacement
shifted d [] = []
shifted d (r ∷ rs) = record { start = d + r.start; end = d + r.end; new = r.new } ∷ shifted d rs

pub replaced-shifted : (d a : ℕ) (t : List ℕ) (rs : List Replacement) → replaced (d + a) t (shifted d rs) ≡ replaced a t rs
replaced-shifted d a t [] = refl
replaced-shifted d a t (r ∷ rs) =
    let x : (d + r.start) - (d + a) ≡ r.start - a = omega arith in
    let y : (d + r.end) - (d + a) ≡ r.end - a = omega arith in
    ap (λ z. take z t ++ (r.new ++ replaced (d + r.end) (drop ((d + r.end) - (d + a)) t) (shifted d rs))) x
    ∙ ap (λ z. take (r.start - a) t ++ (r.new ++ z)) (ap (λ z. replaced (d + r.end) (drop z t) (shifted d rs)) y ∙ replaced-shifted d r.end (drop (r.end - a) t) rs)

pub replacements-shifted : (d a : ℕ) (ps : List Piece) → replacements (d + a) ps ≡ shifted d (replacements a ps)
replacements-shifted d a [] = refl
replacements-shifted d a (Keep cs ∷ ps) =
    let e : d + a + length (raw_text cs) ≡ d + (a + length (raw_text cs)) = omega arith in
    ap (λ z. replacements z ps) e ∙ replacements-shifted d (a + length (raw_text cs)) ps
replacements-shifted d a (Replace cs v ∷ ps) =
    let e : d + a + length (raw_text cs) ≡ d + (a + length (raw_text cs)) = omega arith in
    same_replacement (d + a) (d + a + length (raw_text cs)) (d + a) (d + (a + length (raw_text cs))) v _ _ refl e (ap (λ z. replacements z ps) e ∙ replacements-shifted d (a + length (raw_text cs)) ps)

abbrev one_span : (start end : ℕ) → (new : List ℕ) → List Replacement
one_span s e v = record { start = s; end = e; new = v } ∷ []

set-shifted : (d at : ℕ) (a : Assignment Cell) (v : List ℕ) → set_value_span v (d + at) a ∷ [] ≡ shifted d (set_value_span v at a ∷ [])
set-shifted d at a v = go (is_empty v)
  where
    go : (b : Bool) → one_span (value_start (d + at) a) (cond b (blanks_end (d + at) a) (value_end (d + at) a)) v ≡ one_span (d + value_start at a) (d + cond b (blanks_end at a) (value_end at a)) v
    go true = same_replacement _ _ _ _ v [] [] (omega arith) (omega arith) refl
    go false = same_replacement _ _ _ _ v [] [] (omega arith) (omega arith) refl

append-shifted : (d at : ℕ) (a : Assignment Cell) (v : List ℕ) → append_value_span v (d + at) a ∷ [] ≡ shifted d (append_value_span v at a ∷ [])
append-shifted d at a v = let e : value_end (d + at) a ≡ d + value_end at a = omega arith in same_replacement _ _ _ _ _ [] [] e e refl

remove-shifted : (d at : ℕ) (a : Assignment Cell) (w : List ℕ) → remove_word_spans w (d + at) a ≡ shifted d (remove_word_spans w at a)
remove-shifted d at a w = go (is_empty (staying w (led_words a.value)))
  where
    ps : List Piece
    ps = remove_word_pieces w (led_words a.value)

    go : (b : Bool) → cond b (set_value_span [] (d + at) a ∷ []) (replacements (value_start (d + at) a) ps) ≡ shifted d (cond b (set_value_span [] at a ∷ []) (replacements (value_start at a) ps))
    go true = set-shifted d at a []
    go false = let e : value_start (d + at) a ≡ d + value_start at a = omega arith in ap (λ z. replacements z ps) e ∙ replacements-shifted d (value_start at a) ps

change-shifted : (c : ValueChange) (d at : ℕ) (a : Assignment Cell) → change_spans c (d + at) a ≡ shifted d (change_spans c at a)
change-shifted (Set v) d at a = set-shifted d at a v
change-shifted (SetIf o v) d at a = set-shifted d at a v
change-shifted (Append v) d at a = append-shifted d at a v
change-shifted (Add w) d at a = append-shifted d at a w
change-shifted (Remove w) d at a = remove-shifted d at a w

-- a line with the spans of a change replaced does not depend on the offset where it begins
pub change-by_itself : (c : ValueChange) (at : ℕ) (a : Assignment Cell) (l : List ℕ) → replaced at l (change_spans c at a) ≡ replaced 0 l (change_spans c 0 a)
change-by_itself c at a l =
    let e : at + 0 ≡ at = omega arith in
    ap (λ z. replaced z l (change_spans c z a)) (sym e) ∙ (ap (replaced (at + 0) l) (change-shifted c at 0 a) ∙ replaced-shifted at 0 l (change_spans c 0 a))
