-- Two sources that are read side by side, a buffer at a time.
use Rattle.std.proofs.Common.{◌≡◌, ◌≢◌, ◌∙◌, ℕ, ◌+◌, ◌≤◌, ◌<◌, List, [], ◌++◌, Option, Some, None, true, false, Bool, not, ◌-◌, drop, length, length-append, take, refl, ap, sym, subst, arith}
use Rattle.std.specs.Prelude.{◌↔◌, IfSome}
use Rattle.std.specs.Io.KnownBytes.{Consumes, IsAtEnd}
use Rattle.std.proofs.Math.Seq.{take-append-add, take-append_seam}
use Rattle.std.proofs.lemmas.List.{append_assoc, append_cancel_left, length-take-le, take-append-le}
use Rattle.std.proofs.lemmas.Grind.{common_steps}
use Rattle.std.proofs.lemmas.Slice.Eq.{bytes_eq-Decides}
use Rattle.std.specs.Str.{bytes_eq}

-- what has come, and then what one read gave
pub filled_more : (buffer read rest : List ℕ) (at n : ℕ) → at ≤ length buffer → n ≤ length read
    → take (at + n) (take at buffer ++ (read ++ rest)) ≡ take at buffer ++ take n read
filled_more buffer read rest at n le few =
    let size : length (take at buffer) ≡ at = length-take-le at buffer le in
    let front : take (at + n) (take at buffer ++ (read ++ rest)) ≡ take at buffer ++ take n (read ++ rest) =
    subst (λ (k : ℕ). take (k + n) (take at buffer ++ (read ++ rest)) ≡ take at buffer ++ take n (read ++ rest)) size (take-append-add (take at buffer) (read ++ rest) n) in
    front ∙ ap (λ (t : List ℕ). take at buffer ++ t) (take-append-le n read rest few)

-- a buffer of which the part from `at` was written keeps its length
pub filled_size : (buffer read : List ℕ) (at : ℕ) → at ≤ length buffer → length read ≡ length buffer - at
    → length (take at buffer ++ (read ++ drop (length buffer - at) (drop at buffer))) ≡ length buffer
filled_size buffer read at le size = grind (arith, common_steps)

lengths : (one other left right size : ℕ) → one + left ≡ other + right → (one < size → left ≡ 0) → (other < size → right ≡ 0)
    → one ≤ size → other ≤ size → one ≡ other
lengths one other left right size sum first second le le' = grind arith

-- two texts with the same bytes, of which each piece fills its buffer or is the last one, have the same pieces
same_front : (one other left right : List ℕ) (size : ℕ) → one ++ left ≡ other ++ right → (length one < size → left ≡ []) → (length other < size → right ≡ [])
    → length one ≤ size → length other ≤ size → one ≡ other
same_front one other left right size e first second le le' =
    let sum : length one + length left ≡ length other + length right = sym (length-append one left) ∙ (ap length e ∙ length-append other right) in
    let same : length one ≡ length other = lengths (length one) (length other) (length left) (length right) size sum (λ lt. ap length (first lt)) (λ lt. ap length (second lt)) le le' in
    sym (take-append_seam one left) ∙ (ap (take (length one)) e ∙ (ap (λ (k : ℕ). take k (other ++ right)) same ∙ take-append_seam other right))

-- the same bytes came of both sources, and then other ones: the sources differ
differ : (l l' r r' : Option (List ℕ)) (before one other : List ℕ) (size : ℕ) → Consumes l l' (before ++ one) → Consumes r r' (before ++ other)
    → one ≢ other → (length one < size → IsAtEnd l') → (length other < size → IsAtEnd r') → length one ≤ size → length other ≤ size
    → IfSome l (λ x. IfSome r (λ y. false ≡ true ↔ x ≡ y))
differ None l' r r' before one other size ca cb ne ea eb la lb = tt
differ (Some x) l' None r' before one other size ca cb ne ea eb la lb = tt
differ (Some x) None (Some y) r' before one other size ca cb ne ea eb la lb = absurd ca
differ (Some x) (Some x') (Some y) None before one other size ca cb ne ea eb la lb = absurd cb
differ (Some x) (Some x') (Some y) (Some y') before one other size ca cb ne ea eb la lb = (
  λ e. cc,
  λ e.
      let both : before ++ (one ++ x') ≡ before ++ (other ++ y') = sym (append_assoc before one x') ∙ (sym ca ∙ (e ∙ (cb ∙ append_assoc before other y'))) in
      absurd (ne (same_front one other x' y' size (append_cancel_left before _ _ both) ea eb la lb)),
)

-- the same bytes came of both sources, and no byte is left: the sources are the same
same : (l l' r r' : Option (List ℕ)) (before one other : List ℕ) → Consumes l l' (before ++ one) → Consumes r r' (before ++ other)
    → one ≡ other → IsAtEnd l' → IsAtEnd r' → IfSome l (λ x. IfSome r (λ y. true ≡ true ↔ x ≡ y))
same None l' r r' before one other ca cb e ea eb = tt
same (Some x) l' None r' before one other ca cb e ea eb = tt
same (Some x) None (Some y) r' before one other ca cb e ea eb = absurd ca
same (Some x) (Some x') (Some y) None before one other ca cb e ea eb = absurd cb
same (Some x) (Some x') (Some y) (Some y') before one other ca cb e ea eb =
    let one_end = rw (ea) at ca in
    let other_end = rw (eb) at cb in
    (λ _. one_end ∙ (ap (λ (t : List ℕ). (before ++ t) ++ []) e ∙ sym other_end), λ _. refl)

-- what `!=` says of two pieces
pub same_pieces : (one other : List ℕ) (r : Bool) → r ≡ not (bytes_eq one other) → r ≡ false → one ≡ other
same_pieces one other r is equal = (bytes_eq-Decides one other).0 (holds (bytes_eq one other) (sym is ∙ equal)) where
  holds : (b : Bool) → not b ≡ false → b ≡ true
  holds true e = refl
  holds false e = cc

pub other_pieces : (one other : List ℕ) (r : Bool) → r ≡ not (bytes_eq one other) → r ≡ true → one ≢ other
other_pieces one other r is differs e =
    let equal : bytes_eq one other ≡ true = (bytes_eq-Decides one other).1 e in
    let clash : true ≡ false = sym differs ∙ (is ∙ ap not equal) in
    cc

-- the same of two buffers, of which the first n and k bytes have come
pub differ_at : (l l' r r' : Option (List ℕ)) (before buffer other : List ℕ) (n k size : ℕ) → length buffer ≡ size → length other ≡ size
    → n ≤ length buffer → k ≤ length other → Consumes l l' (before ++ take n buffer) → Consumes r r' (before ++ take k other)
    → take n buffer ≢ take k other → (n < length buffer → IsAtEnd l') → (k < length other → IsAtEnd r')
    → IfSome l (λ x. IfSome r (λ y. false ≡ true ↔ x ≡ y))
differ_at l l' r r' before buffer other n k size bs os le le' ca cb ne ea eb =
    let sn : length (take n buffer) ≡ n = length-take-le n buffer le in
    let sk : length (take k other) ≡ k = length-take-le k other le' in
    differ l l' r r' before (take n buffer) (take k other) size ca cb ne
    (λ lt. ea (omega (arith, sn, bs, lt))) (λ lt. eb (omega (arith, sk, os, lt))) (omega (arith, sn, bs, le)) (omega (arith, sk, os, le'))

pub same_at : (l l' r r' : Option (List ℕ)) (before buffer other : List ℕ) (n k size : ℕ) → length buffer ≡ size → length other ≡ size
    → n ≤ length buffer → k ≤ length other → Consumes l l' (before ++ take n buffer) → Consumes r r' (before ++ take k other)
    → take n buffer ≡ take k other → (n < length buffer → IsAtEnd l') → (k < length other → IsAtEnd r') → n < size
    → IfSome l (λ x. IfSome r (λ y. true ≡ true ↔ x ≡ y))
same_at l l' r r' before buffer other n k size bs os le le' ca cb e ea eb lt =
    let both : n ≡ k = sym (length-take-le n buffer le) ∙ (ap length e ∙ length-take-le k other le') in
    same l l' r r' before (take n buffer) (take k other) ca cb e (ea (omega (arith, bs, lt))) (eb (omega (arith, os, lt, both)))
