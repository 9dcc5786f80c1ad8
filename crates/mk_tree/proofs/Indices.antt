-- What is at an index of a list that falls into a left part, one member, and a right part.
use Rattle.std.proofs.Common.{◌≡◌, ℕ, zero, suc, ◌+◌, ◌-◌, ◌<◌, ◌≤◌, List, [], ◌∷◌, ◌++◌, length, take, drop, Some, refl, ap, arith, zero-add, suc-add, append_assoc, ◌∙◌, sym}
use Rattle.std.specs.Prelude.{slice_get}
use Rattle.std.proofs.lemmas.List.{take-append-le, drop-append-le}
use Rattle.std.proofs.Math.Seq.{take-append-add, drop-append-add, take-append_seam}
use Rattle.mk_tree.specs.LocatedLines.{LocatedLine, size_of, size_of_line}

pub get_left : {X : Type 0} (l m : List X) (at : ℕ) → at < length l → slice_get (l ++ m) at ≡ slice_get l at
get_left [] m at h = absurd (omega arith)
get_left (x ∷ l) m zero h = refl
get_left (x ∷ l) m (suc at) h = get_left l m at (omega arith)

pub get_middle : {X : Type 0} (l r : List X) (x : X) (at : ℕ) → at ≡ length l → slice_get (l ++ x ∷ r) at ≡ Some x
get_middle [] r x at h = rw h refl
get_middle (y ∷ l) r x at h = rw h (get_middle l r x (length l) refl)

get_add : {X : Type 0} (l r : List X) (k : ℕ) → slice_get (l ++ r) (length l + k) ≡ slice_get r k
get_add [] r k = rw zero-add refl
get_add (y ∷ l) r k = rw (suc-add (length l) k) (get_add l r k)

pub get_right : {X : Type 0} (l r : List X) (x : X) (at : ℕ) → length l < at → slice_get (l ++ x ∷ r) at ≡ slice_get r (at - length l - 1)
get_right l r x at h =
    let e : at ≡ length l + suc (at - length l - 1) = omega arith in
    ap (λ i. slice_get (l ++ x ∷ r) i) e ∙ get_add l (x ∷ r) (suc (at - length l - 1))

take_right : {X : Type 0} (l r : List X) (x : X) (at : ℕ) → length l < at → take at (l ++ x ∷ r) ≡ l ++ x ∷ take (at - length l - 1) r
take_right l r x at h =
    let e : at ≡ length l + suc (at - length l - 1) = omega arith in
    ap (λ i. take i (l ++ x ∷ r)) e ∙ take-append-add l (x ∷ r) (suc (at - length l - 1))

pub drop_right : {X : Type 0} (l r : List X) (x : X) (at : ℕ) → length l < at → drop at (l ++ x ∷ r) ≡ drop (at - length l - 1) r
drop_right l r x at h =
    let e : at ≡ length l + suc (at - length l - 1) = omega arith in
    ap (λ i. drop i (l ++ x ∷ r)) e ∙ drop-append-add l (x ∷ r) (suc (at - length l - 1))

pub take_middle : {X : Type 0} (l m : List X) (at : ℕ) → at ≡ length l → take at (l ++ m) ≡ l
take_middle l m at h = rw h (take-append_seam l m)

pub drop_middle : {X : Type 0} (l r : List X) (x : X) (at : ℕ) → at ≡ length l → drop (at + 1) (l ++ x ∷ r) ≡ r
drop_middle l r x at h = rw h (drop-append-add l (x ∷ r) 1)

pub size_of-append : (l m : List LocatedLine) → size_of (l ++ m) ≡ size_of l + size_of m
size_of-append [] m = sym (zero-add (size_of m))
size_of-append (x ∷ l) m = omega (arith, size_of-append l m)

pub size_of-whole : (l r : List LocatedLine) (x : LocatedLine) → size_of (l ++ x ∷ r) ≡ size_of l + length x.bytes + size_of r
size_of-whole l r x = omega (arith, size_of-append l (x ∷ r))

-- a member put in, or taken out, right of the middle
insert_right : {X : Type 0} (l r : List X) (x y : X) (at n : ℕ) → n ≡ length l → n < at → take at (l ++ x ∷ r) ++ y ∷ drop at (l ++ x ∷ r) ≡ l ++ x ∷ (take (at - n - 1) r ++ y ∷ drop (at - n - 1) r)
insert_right l r x y at n e h =
    let k : length l < at = omega arith in
    rw (take_right l r x at k, drop_right l r x at k, e, append_assoc) refl

remove_right : {X : Type 0} (l r : List X) (x : X) (at n : ℕ) → n ≡ length l → n < at → take at (l ++ x ∷ r) ++ drop (at + 1) (l ++ x ∷ r) ≡ l ++ x ∷ (take (at - n - 1) r ++ drop (at - n - 1 + 1) r)
remove_right l r x at n e h =
    let k : length l < at = omega arith in
    let k' : length l < at + 1 = omega arith in
    let d : at + 1 - length l - 1 ≡ at - n - 1 + 1 = omega arith in
    rw (take_right l r x at k, drop_right l r x (at + 1) k', d, e, append_assoc) refl

replace_right : {X : Type 0} (l r : List X) (x y : X) (at n : ℕ) → n ≡ length l → n < at → take at (l ++ x ∷ r) ++ y ∷ drop (at + 1) (l ++ x ∷ r) ≡ l ++ x ∷ (take (at - n - 1) r ++ y ∷ drop (at - n - 1 + 1) r)
replace_right l r x y at n e h =
    let k : length l < at = omega arith in
    let k' : length l < at + 1 = omega arith in
    let d : at + 1 - length l - 1 ≡ at - n - 1 + 1 = omega arith in
    rw (take_right l r x at k, drop_right l r x (at + 1) k', d, e, append_assoc) refl

replace_left : {X : Type 0} (l r : List X) (x y : X) (at : ℕ) → at < length l → take at (l ++ x ∷ r) ++ y ∷ drop (at + 1) (l ++ x ∷ r) ≡ (take at l ++ y ∷ drop (at + 1) l) ++ x ∷ r
replace_left l r x y at h = rw (take-append-le at l (x ∷ r) (omega (arith, h)), drop-append-le (at + 1) l (x ∷ r) (omega (arith, h)), append_assoc) refl

replace_middle : {X : Type 0} (l r : List X) (x y : X) (at : ℕ) → at ≡ length l → take at (l ++ x ∷ r) ++ y ∷ drop (at + 1) (l ++ x ∷ r) ≡ l ++ y ∷ r
replace_middle l r x y at h = rw (take_middle l (x ∷ r) at h, drop_middle l r x at h) refl

-- one member for another leaves the number of members
pub length-replaced : {X : Type 0} (y : X) (xs : List X) (at : ℕ) → at < length xs → length (take at xs ++ y ∷ drop (at + 1) xs) ≡ length xs
length-replaced y [] at h = absurd (omega (arith, h))
length-replaced y (x ∷ xs) zero h = omega arith
length-replaced y (x ∷ xs) (suc at) h = rw (suc-add at 1) (omega (arith, length-replaced y xs at (omega (arith, h))))

-- the same member put in, by what each step leaves
pub insert_right_steps : {X : Type 0} (whole l r new r' : List X) (x y : X) (at n : ℕ) → whole ≡ l ++ x ∷ r → r' ≡ take (at - n - 1) r ++ y ∷ drop (at - n - 1) r → new ≡ l ++ x ∷ r' → n ≡ length l → n < at → new ≡ take at whole ++ y ∷ drop at whole
insert_right_steps whole l r new r' x y at n a b d e h = rw (a, d, b) (sym (insert_right l r x y at n e h))

pub remove_right_steps : {X : Type 0} (whole l r new r' : List X) (x : X) (at n : ℕ) → whole ≡ l ++ x ∷ r → r' ≡ take (at - n - 1) r ++ drop (at - n - 1 + 1) r → new ≡ l ++ x ∷ r' → n ≡ length l → n < at → new ≡ take at whole ++ drop (at + 1) whole
remove_right_steps whole l r new r' x at n a b d e h = rw (a, d, b) (sym (remove_right l r x at n e h))

pub replace_right_steps : {X : Type 0} (whole l r new r' : List X) (x y : X) (at n : ℕ) → whole ≡ l ++ x ∷ r → r' ≡ take (at - n - 1) r ++ y ∷ drop (at - n - 1 + 1) r → new ≡ l ++ x ∷ r' → n ≡ length l → n < at → new ≡ take at whole ++ y ∷ drop (at + 1) whole
replace_right_steps whole l r new r' x y at n a b d e h = rw (a, d, b) (sym (replace_right l r x y at n e h))

pub replace_left_steps : {X : Type 0} (whole l r new l' : List X) (x y : X) (at : ℕ) → whole ≡ l ++ x ∷ r → l' ≡ take at l ++ y ∷ drop (at + 1) l → new ≡ l' ++ x ∷ r → at < length l → new ≡ take at whole ++ y ∷ drop (at + 1) whole
replace_left_steps whole l r new l' x y at a b d h = rw (a, d, b) (sym (replace_left l r x y at h))

pub replace_middle_steps : {X : Type 0} (whole l r new : List X) (x y : X) (at : ℕ) → whole ≡ l ++ x ∷ r → new ≡ l ++ y ∷ r → at ≡ length l → new ≡ take at whole ++ y ∷ drop (at + 1) whole
replace_middle_steps whole l r new x y at a d h = rw (a, d) (sym (replace_middle l r x y at h))

-- a line fits in the place of one right of the middle, if it does so in the whole
pub fits_right : (whole l r : List LocatedLine) (x : LocatedLine) (at n k limit : ℕ) → whole ≡ l ++ x ∷ r → n ≡ length l → n < at → size_of whole + k ≤ limit + size_of_line (slice_get whole at)
    → size_of r + k ≤ limit + size_of_line (slice_get r (at - n - 1))
fits_right whole l r x at n k limit e m h f =
    let same : slice_get whole at ≡ slice_get r (at - n - 1) = rw (e, m) (get_right l r x at (omega (arith, m, h))) in
    omega (arith, f, ap size_of e, size_of-whole l r x, ap size_of_line same)

-- the whole is within a limit with another left part, another member in the middle, or another right part
pub within_left : (whole l r l' : List LocatedLine) (x : LocatedLine) (at k limit : ℕ) → whole ≡ l ++ x ∷ r → at < length l → size_of whole + k ≤ limit + size_of_line (slice_get whole at)
    → size_of l' + size_of_line (slice_get l at) ≡ size_of l + k → size_of l' + length x.bytes + size_of r ≤ limit
within_left whole l r l' x at k limit e h f s =
    let same : slice_get whole at ≡ slice_get l at = rw e (get_left l (x ∷ r) at h) in
    omega (arith, f, s, ap size_of e, size_of-whole l r x, ap size_of_line same)

pub within_middle : (whole l r : List LocatedLine) (x : LocatedLine) (at k limit : ℕ) → whole ≡ l ++ x ∷ r → at ≡ length l → size_of whole + k ≤ limit + size_of_line (slice_get whole at)
    → size_of l + k + size_of r ≤ limit
within_middle whole l r x at k limit e h f =
    let same : slice_get whole at ≡ Some x = rw e (get_middle l r x at h) in
    omega (arith, f, ap size_of e, size_of-whole l r x, ap size_of_line same)

pub within_right : (whole l r r' : List LocatedLine) (x : LocatedLine) (at n k limit : ℕ) → whole ≡ l ++ x ∷ r → n ≡ length l → n < at → size_of whole + k ≤ limit + size_of_line (slice_get whole at)
    → size_of r' + size_of_line (slice_get r (at - n - 1)) ≡ size_of r + k → size_of l + length x.bytes + size_of r' ≤ limit
within_right whole l r r' x at n k limit e m h f s =
    let same : slice_get whole at ≡ slice_get r (at - n - 1) = rw (e, m) (get_right l r x at (omega (arith, m, h))) in
    omega (arith, f, s, ap size_of e, size_of-whole l r x, ap size_of_line same)

pub ruleset indices = (get_left, get_middle, get_right, take_middle, drop_middle, take-append-le, drop-append-le, size_of-append)

-- the members from an index on, if there is a member there
pub drop_get : {X : Type 0} (xs : List X) (at : ℕ) (x : X) → Some x ≡ slice_get xs at → drop at xs ≡ x ∷ drop (at + 1) xs
drop_get [] at x h = absurd (cc)
drop_get (y ∷ xs) zero x h = cc
drop_get (y ∷ xs) (suc at) x h = rw (suc-add at 1) (drop_get xs at x h)

-- the bytes of lines that fall into a left part, one line, and a right part
pub ruleset sizes = (size_of-whole)
