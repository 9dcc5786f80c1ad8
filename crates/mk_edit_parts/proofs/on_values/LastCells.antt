-- Whether a cell is a fold, told by how many raw bytes it has.
use Rattle.std.proofs.Common.{◌≡◌, refl, ap, ◌∙◌, arith, ℕ, zero, suc, ◌+◌, ◌-◌, ◌<◌, ◌≤◌, List, [], ◌∷◌, Bool, false, length, length-append, take, drop}
use Rattle.std.specs.Prelude.{nat_lt}
use Rattle.std.proofs.lemmas.Bool.{lt-ltb}
use Rattle.mk_lines.specs.Bytes.{ByteKind, LineFeed, CarriageReturn, Backslash, Blank, byte_kind}
use Rattle.mk_lines.specs.Cells.{Cell, Byte, Fold, LfEnd, CrLfEnd, raw_bytes, raw_text, cells, prepend}
use Rattle.mk_lines.specs.CellFaults.{is_fold, is_stray, has_stray}
use Rattle.mk_lines.specs.Ranges.{raw_offset}
use Rattle.mk_lines.proofs.on_cells.CellLemmas.{IsCell, AreCells}
use Rattle.mk_lines.proofs.on_lists.BoolLemmas.{or-left_false, or-right_false}
use Rattle.mk_class.specs.ListTests.{first_passes, last_passes}

-- a fold has several raw bytes
fold-wide : (r : List ℕ) → cells r ≡ Fold r ∷ [] → 1 < length r
fold-wide [] h = absurd (cc)
fold-wide (b ∷ []) h = absurd (go (byte_kind b) h)
  where
    go : (k : ByteKind) → prepend k b [] ≡ Fold (b ∷ []) ∷ [] → ⊥
    go LineFeed e = cc
    go CarriageReturn e = cc
    go Backslash e = cc
    go Blank e = cc
    go k e = cc
fold-wide (b ∷ d ∷ r) h = omega arith

-- a cell that is no stray byte is a fold if it has several raw bytes
cell-wide : (c : Cell) → IsCell c → is_stray c ≡ false → nat_lt 1 (length (raw_bytes c)) ≡ is_fold c
cell-wide (Byte b) h s = refl
cell-wide (Fold r) h s = lt-ltb 1 (length r) (fold-wide r h)
cell-wide (LfEnd r) h s = absurd (cc)
cell-wide (CrLfEnd r) h s = absurd (cc)

-- the cell at an offset
pub cell-at : (cs : List Cell) (n : ℕ) → AreCells cs → has_stray cs ≡ false → n < length cs → nat_lt 1 (raw_offset cs (suc n) - raw_offset cs n) ≡ first_passes is_fold (drop n cs)
cell-at [] n h s w = absurd (omega (arith, w))
cell-at (c ∷ cs) zero h s w =
    let a : raw_offset (c ∷ cs) (suc zero) ≡ length (raw_bytes c) + 0 = length-append (raw_bytes c) [] in
    let e : raw_offset (c ∷ cs) (suc zero) - raw_offset (c ∷ cs) zero ≡ length (raw_bytes c) = omega (arith, a) in
    ap (nat_lt 1) e ∙ cell-wide c h.0 (or-left_false (is_stray c) (has_stray cs) s)
cell-at (c ∷ cs) (suc n) h s w =
    let a : raw_offset (c ∷ cs) (suc (suc n)) ≡ length (raw_bytes c) + raw_offset cs (suc n) = length-append (raw_bytes c) (raw_text (take (suc n) cs)) in
    let b : raw_offset (c ∷ cs) (suc n) ≡ length (raw_bytes c) + raw_offset cs n = length-append (raw_bytes c) (raw_text (take n cs)) in
    let e : raw_offset (c ∷ cs) (suc (suc n)) - raw_offset (c ∷ cs) (suc n) ≡ raw_offset cs (suc n) - raw_offset cs n = omega (arith, a, b) in
    ap (nat_lt 1) e ∙ cell-at cs n h.2 (or-right_false (is_stray c) (has_stray cs) s) (omega (arith, w))

-- the last of some elements at the front of a list
last-taken : {A : Type 0} (p : A → Bool) (xs : List A) (n : ℕ) → suc n ≤ length xs → last_passes p (take (suc n) xs) ≡ first_passes p (drop n xs)
last-taken p [] n w = absurd (omega (arith, w))
last-taken p (x ∷ xs) zero w = refl
last-taken p (x ∷ []) (suc n) w = absurd (omega (arith, w))
last-taken p (x ∷ y ∷ xs) (suc n) w = last-taken p (y ∷ xs) n (omega (arith, w))

-- the last of the elements in a range, of which `at` is the last offset
pub last-in_range : {A : Type 0} (p : A → Bool) (xs : List A) (s n at : ℕ) → at ≡ s + n → at < length xs → last_passes p (take (suc n) (drop s xs)) ≡ first_passes p (drop at xs)
last-in_range p xs zero n at e w = last-taken p xs n (omega (arith, e, w)) ∙ ap (λ (k : ℕ). first_passes p (drop k xs)) (omega (arith, e))
last-in_range p xs (suc s) n zero e w = absurd (omega (arith, e))
last-in_range p [] (suc s) n (suc at) e w = absurd (omega (arith, w))
last-in_range p (x ∷ xs) (suc s) n (suc at) e w = last-in_range p xs s n at (omega (arith, e)) (omega (arith, w))
