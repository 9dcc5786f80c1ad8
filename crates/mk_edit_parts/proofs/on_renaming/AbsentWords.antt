-- A part of which the word is no word holds no range of it.
use Rattle.std.proofs.Common.{◌≡◌, refl, sym, ap, ◌∙◌, arith, ℕ, zero, suc, ◌+◌, ◌-◌, ◌≤◌, Bool, true, false, List, [], ◌∷◌, take, drop, length, map, drop-drop, Some, None}
use Rattle.std.specs.Prelude.{if◌then◌else◌}
use Rattle.std.proofs.lemmas.Bool.{false≢true, or_parts}
use Rattle.std.specs.Str.{bytes_eq}
use Rattle.std.proofs.lemmas.List.{drop-take}
use Rattle.std.proofs.lemmas.Slice.Eq.{bytes_eq-Decides}
use Rattle.mk_lines.specs.Cells.{Cell, joined_text}
use Rattle.mk_lines.specs.Ranges.{raw_range, text_at, word_ranges}
use Rattle.mk_lines.specs.Words.{words_in}
use Rattle.mk_lines.specs.declared.split.Span.{Span}
use Rattle.mk_lines.proofs.on_lists.RangeLemmas.{word_ranges-text}
use Rattle.mk_class.specs.Texts.{is_one_of}
use Rattle.mk_edit_parts.specs.RenamedRanges.{AreWithin, IsWithin, before_ranges, part_ranges, range_in, ranges_in, span}
use Rattle.mk_edit_parts.proofs.on_renaming.RangeLemmas.{part-words}

take-fewer : (n m : ℕ) (t : List ℕ) → n ≤ m → take n (take m t) ≡ take n t
take-fewer zero m t h = refl
take-fewer (suc n) zero t h = absurd (omega (arith, h))
take-fewer (suc n) (suc m) [] h = refl
take-fewer (suc n) (suc m) (b ∷ t) h = ap (λ z. b ∷ z) (take-fewer n m t (omega (arith, h)))

-- a range of a part, counted from the part's start, is the same text in the whole
text-within : (t : List ℕ) (p w : Span) → IsWithin (p.end - p.start) w → text_at t (span (p.start + w.start) (p.start + w.end)) ≡ text_at (text_at t p) w
text-within t p w h =
    let n = w.end - w.start in
    let k = p.end - p.start - w.end in
    let whole : p.end - p.start ≡ w.start + (n + k) = omega (arith, h.0, h.1) in
    let len : p.start + w.end - (p.start + w.start) ≡ n = omega arith in
    let cut : drop w.start (take (p.end - p.start) (drop p.start t)) ≡ take (n + k) (drop w.start (drop p.start t)) =
    ap (λ m. drop w.start (take m (drop p.start t))) whole ∙ drop-take w.start (n + k) (drop p.start t) in
    ap (λ m. take m (drop (p.start + w.start) t)) len
    ∙ (ap (take n) (sym (drop-drop w.start p.start t)) ∙ (sym (take-fewer n (n + k) (drop w.start (drop p.start t)) (omega arith)) ∙ ap (take n) (sym cut)))

module _ (cs : List Cell) (p : Span) (o : List ℕ) where
  range-lacks : (w : Span) → IsWithin (p.end - p.start) w → bytes_eq o (text_at (text_at (joined_text cs) p) w) ≡ false → range_in cs p.start o w ≡ None
  range-lacks w h e = go (bytes_eq (text_at (joined_text cs) (span (p.start + w.start) (p.start + w.end))) o) refl
    where
      go : (b : Bool) → bytes_eq (text_at (joined_text cs) (span (p.start + w.start) (p.start + w.end))) o ≡ b → (if b then Some (raw_range cs (p.start + w.start) (p.start + w.end)) else None) ≡ None
      go true is =
          let same : o ≡ text_at (text_at (joined_text cs) p) w =
          sym ((bytes_eq-Decides (text_at (joined_text cs) (span (p.start + w.start) (p.start + w.end))) o).0 is) ∙ text-within (joined_text cs) p w h in
          absurd (false≢true (sym e ∙ (bytes_eq-Decides o (text_at (text_at (joined_text cs) p) w)).1 same))
      go false is = refl

  ranges-lack : (ws : List Span) → AreWithin (p.end - p.start) ws → is_one_of o (map (text_at (text_at (joined_text cs) p)) ws) ≡ false → ranges_in cs p.start o ws ≡ []
  ranges-lack [] h e = refl
  ranges-lack (w ∷ ws) h e =
      let parts = or_parts (bytes_eq o (text_at (text_at (joined_text cs) p) w)) (is_one_of o (map (text_at (text_at (joined_text cs) p)) ws)) e in
      ap (λ r. before_ranges r (ranges_in cs p.start o ws)) (range-lacks w h.0 parts.0) ∙ ranges-lack ws h.1 parts.1

  pub part-lacks : IsWithin (length cs) p → is_one_of o (words_in (text_at (joined_text cs) p)) ≡ false → part_ranges cs o p ≡ []
  part-lacks h e =
      ranges-lack
      (word_ranges (text_at (joined_text cs) p))
      (part-words cs p (word_ranges (text_at (joined_text cs) p)) h refl)
      (ap (is_one_of o) (word_ranges-text (text_at (joined_text cs) p)) ∙ e)
