-- The last of some lines, with other bytes.
use Rattle.std.proofs.Common.{◌≡◌, ℕ, zero, suc, ◌+◌, ◌-◌, ◌<◌, ◌≤◌, refl, sym, ap, ◌∙◌, arith, List, [], ◌∷◌, ◌++◌, length, length-append, append-nil, take, drop, Option, Some, None}
use Rattle.std.specs.Prelude.{slice_get}
use Rattle.mk_class.specs.Contexts.{conditionals_after_located}
use Rattle.mk_tree.specs.LocatedLines.{LocatedLine, size_of, size_of_line, bytes_of_line, last_line, with_last_bytes, AreConditionalsFit}
use Rattle.mk_tree.proofs.Indices.{get_middle, take_middle, drop_middle}

-- the last of lines that end in some lines is the last of those
last-append : (l r : List LocatedLine) (x : LocatedLine) → last_line (l ++ x ∷ r) ≡ last_line (x ∷ r)
last-append [] r x = refl
last-append (y ∷ []) r x = refl
last-append (y ∷ z ∷ l) r x = last-append (z ∷ l) r x

with_last-append : (bytes : List ℕ) (l r : List LocatedLine) (x : LocatedLine) → with_last_bytes bytes (l ++ x ∷ r) ≡ l ++ with_last_bytes bytes (x ∷ r)
with_last-append bytes [] r x = refl
with_last-append bytes (y ∷ []) r x = refl
with_last-append bytes (y ∷ z ∷ l) r x = ap (λ q. y ∷ q) (with_last-append bytes (z ∷ l) r x)

pub take-with_last : (bytes : List ℕ) (n : ℕ) (ls : List LocatedLine) → n < length ls → take n (with_last_bytes bytes ls) ≡ take n ls
take-with_last bytes zero ls h = refl
take-with_last bytes (suc n) [] h = absurd (omega (arith, h))
take-with_last bytes (suc n) (l ∷ []) h = absurd (omega (arith, h))
take-with_last bytes (suc n) (l ∷ k ∷ ls) h = ap (λ z. l ∷ z) (take-with_last bytes n (k ∷ ls) (omega (arith, h)))

pub length-with_last : (bytes : List ℕ) (ls : List LocatedLine) → length (with_last_bytes bytes ls) ≡ length ls
length-with_last bytes [] = refl
length-with_last bytes (l ∷ []) = refl
length-with_last bytes (l ∷ k ∷ ls) = ap suc (length-with_last bytes (k ∷ ls))

drop-all : (ls : List LocatedLine) → drop (length ls) ls ≡ []
drop-all [] = refl
drop-all (l ∷ ls) = drop-all ls

-- some lines are a front and then this last line
record IsSplit (ls front : List LocatedLine) (x : LocatedLine) : Type 0 where
  whole : ls ≡ front ++ x ∷ []

split_last : (ls : List LocatedLine) → 0 < length ls → (front : List LocatedLine) × (x : LocatedLine) × IsSplit ls front x
split_last [] h = absurd (omega (arith, h))
split_last (l ∷ []) h = ([], l, record { whole = refl })
split_last (l ∷ k ∷ ls) h = let (front, x, s) = split_last (k ∷ ls) (omega arith) in (l ∷ front, x, record { whole = ap (λ z. l ∷ z) s.whole })

-- the line at the last index is the last line
pub last-index : (ls : List LocatedLine) (x : LocatedLine) (at : ℕ) → 0 < length ls → at ≡ length ls - 1 → Some x ≡ slice_get ls at → last_line ls ≡ Some x
last-index ls x at h e g =
    let (front, y, s) = split_last ls h in
    let n : length front ≡ at = omega (arith, e, ap length s.whole, length-append front (y ∷ [])) in
    let here : slice_get ls at ≡ Some y = ap (λ z. slice_get z at) s.whole ∙ get_middle front [] y at (sym n) in
    ap last_line s.whole ∙ (last-append front [] y ∙ (sym here ∙ sym g))

-- the last line taken out, and put in with other bytes
pub with_last-index : (bytes : List ℕ) (ls rest new : List LocatedLine) (x x' : LocatedLine) (at : ℕ) → 0 < length ls → at ≡ length ls - 1 → Some x ≡ slice_get ls at
    → rest ≡ take at ls ++ drop (at + 1) ls → x' ≡ record x { bytes = bytes } → new ≡ take at rest ++ x' ∷ drop at rest → new ≡ with_last_bytes bytes ls
with_last-index bytes ls rest new x x' at h e g r v q =
    let (front, y, s) = split_last ls h in
    let n : length front ≡ at = omega (arith, e, ap length s.whole, length-append front (y ∷ [])) in
    let here : slice_get ls at ≡ Some y = ap (λ z. slice_get z at) s.whole ∙ get_middle front [] y at (sym n) in
    let same : Some x ≡ Some y = g ∙ here in
    let same_line : x ≡ y = cc in
    let front_is : take at ls ≡ front = ap (take at) s.whole ∙ take_middle front (y ∷ []) at (sym n) in
    let none : drop (at + 1) ls ≡ [] = ap (drop (at + 1)) s.whole ∙ drop_middle front [] y at (sym n) in
    let rest_is : rest ≡ front = r ∙ (ap (λ z. z ++ drop (at + 1) ls) front_is ∙ (ap (λ z. front ++ z) none ∙ append-nil front)) in
    let left : take at rest ≡ front = ap (take at) (rest_is ∙ sym (append-nil front)) ∙ take_middle front [] at (sym n) in
    let right : drop at rest ≡ [] = ap (drop at) rest_is ∙ (ap (λ z. drop z front) (sym n) ∙ drop-all front) in
    q ∙ (ap (λ z. z ++ x' ∷ drop at rest) left ∙ (ap (λ z. front ++ x' ∷ z) right
    ∙ (ap (λ z. front ++ z ∷ []) (v ∙ ap (λ (z : LocatedLine). record z { bytes = bytes }) same_line) ∙ (sym (with_last-append bytes front [] y) ∙ sym (ap (with_last_bytes bytes) s.whole)))))

-- a line of these bytes and of another's class
pub with_bytes : (l x : LocatedLine) (bytes : List ℕ) → l.bytes ≡ bytes → l.class ≡ x.class → l ≡ record x { bytes = bytes }
with_bytes l x bytes e f = ap (λ (z : List ℕ). record l { bytes = z }) e ∙ ap (λ z. record x { bytes = bytes; class = z }) f

-- the bytes of lines with other bytes for the last
pub size_of-with_last : (bytes : List ℕ) (ls : List LocatedLine) → 0 < length ls → size_of (with_last_bytes bytes ls) + size_of_line (last_line ls) ≡ size_of ls + length bytes
size_of-with_last bytes [] h = absurd (omega (arith, h))
size_of-with_last bytes (l ∷ []) h = omega arith
size_of-with_last bytes (l ∷ k ∷ ls) h = omega (arith, size_of-with_last bytes (k ∷ ls) (omega arith))

-- the classes stay, and so do the open conditionals
pub fit-with_last : (n : ℕ) (bytes : List ℕ) (ls : List LocatedLine) → AreConditionalsFit n ls → AreConditionalsFit n (with_last_bytes bytes ls)
fit-with_last n bytes [] h = tt
fit-with_last n bytes (l ∷ []) h = h
fit-with_last n bytes (l ∷ k ∷ ls) h = (h.0, fit-with_last (conditionals_after_located n l.class) bytes (k ∷ ls) h.1)

pub fit-with_last_steps : (bytes : List ℕ) (self draft new : List LocatedLine) → draft ≡ self → AreConditionalsFit 0 self → new ≡ with_last_bytes bytes draft → AreConditionalsFit 0 new
fit-with_last_steps bytes self draft new e h r = rw (r, e) (fit-with_last 0 bytes self h)

-- the bytes of a line, counted
size_of_line-bytes : (o : Option LocatedLine) → size_of_line o ≡ length (bytes_of_line o)
size_of_line-bytes None = refl
size_of_line-bytes (Some l) = refl

-- the size of a document with other bytes for the last line
pub size-with_last_steps : (size : ℕ) (bytes old : List ℕ) (inside taken new : List LocatedLine) → 0 < length taken → taken ≡ inside → size ≡ size_of inside → new ≡ with_last_bytes bytes taken
    → old ≡ bytes_of_line (last_line taken) → (length old ≤ size + length bytes) × (size + length bytes - length old ≡ size_of new)
size-with_last_steps size bytes old inside taken new some e h r o =
    let own : length old ≡ size_of_line (last_line taken) = ap length o ∙ sym (size_of_line-bytes (last_line taken)) in
    let total : size ≡ size_of taken = h ∙ ap size_of (sym e) in
    let whole : size_of new + size_of_line (last_line taken) ≡ size_of taken + length bytes = rw r (size_of-with_last bytes taken some) in
    (omega (arith, own, total, whole), omega (arith, own, total, whole))

pub ruleset sizes = (size_of-with_last)
