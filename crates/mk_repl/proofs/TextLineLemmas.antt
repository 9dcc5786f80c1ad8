-- The lines of a text, one after the other, as a search for line feeds finds them.
use Rattle.std.proofs.Common.{◌≡◌, refl, sym, ap, ◌∙◌, subst, ℕ, zero, suc, ◌+◌, ◌<◌, ◌≤◌, List, [], ◌∷◌, ◌++◌, length, take, drop, Some, arith, append_assoc}
use Rattle.std.specs.List.{flat_map}
use Rattle.std.proofs.lemmas.List.{append-nil}
use Rattle.memchr.specs.Find.{IsFirstByte, is_byte}
use Rattle.mk_lines.specs.Lists.{concat}
use Rattle.mk_lines.specs.PhysicalLines.{physical_lines}
use Rattle.mk_repl.specs.AnswerLines.{answer_line, answer_lines}

-- a line feed that a search finds is one of the text's bytes
pub line-found-within : (text : List ℕ) (feed : ℕ) → IsFirstByte (is_byte 10) text (Some feed) → feed < length text
line-found-within text feed h = h.0.high

-- ---- parts of lists

take-add : {A : Type 0} (a n : ℕ) (xs : List A) → take (a + n) xs ≡ take a xs ++ take n (drop a xs)
take-add zero n xs = let e : zero + n ≡ n = omega arith in rw e refl
take-add (suc a) zero [] = let e : suc a + zero ≡ suc a = omega arith in rw e refl
take-add (suc a) (suc n) [] = let e : suc a + suc n ≡ suc (a + suc n) = omega arith in rw e refl
take-add (suc a) n (x ∷ xs) =
    let e : suc a + n ≡ suc (a + n) = omega arith in
    rw e (ap (λ t. x ∷ t) (take-add a n xs))

drop-add : {A : Type 0} (a n : ℕ) (xs : List A) → drop (a + n) xs ≡ drop n (drop a xs)
drop-add zero n xs = let e : zero + n ≡ n = omega arith in rw e refl
drop-add (suc a) zero [] = let e : suc a + zero ≡ suc a = omega arith in rw e refl
drop-add (suc a) (suc n) [] = let e : suc a + suc n ≡ suc (a + suc n) = omega arith in rw e refl
drop-add (suc a) n (x ∷ xs) =
    let e : suc a + n ≡ suc (a + n) = omega arith in
    rw e (drop-add a n xs)

-- without one more
drop-next : {A : Type 0} (i : ℕ) (xs : List A) (y : A) (ys : List A) → drop i xs ≡ y ∷ ys → drop (suc i) xs ≡ ys
drop-next zero [] y ys h = absurd (cc)
drop-next (suc i) [] y ys h = absurd (cc)
drop-next zero (x ∷ xs) y ys h = cc
drop-next (suc i) (x ∷ xs) y ys h = drop-next i xs y ys h

-- one more, joined
concat-next : (i : ℕ) (xs : List (List ℕ)) (y : List ℕ) (ys : List (List ℕ)) → drop i xs ≡ y ∷ ys
    → concat (take (suc i) xs) ≡ concat (take i xs) ++ y
concat-next zero [] y ys h = absurd (cc)
concat-next (suc i) [] y ys h = absurd (cc)
concat-next zero (x ∷ xs) y ys h = let same : x ≡ y = cc in append-nil x ∙ same
concat-next (suc i) (x ∷ xs) y ys h =
    ap (λ t. x ++ t) (concat-next i xs y ys h) ∙ sym (append_assoc x (concat (take i xs)) y)

-- where none is left there are no more
take-all : {A : Type 0} (i k : ℕ) (xs : List A) → drop i xs ≡ [] → i ≤ k → take i xs ≡ take k xs
take-all zero zero [] h le = refl
take-all zero (suc k) [] h le = refl
take-all (suc i) zero [] h le = refl
take-all (suc i) (suc k) [] h le = refl
take-all zero k (x ∷ xs) h le = absurd (cc)
take-all (suc i) zero (x ∷ xs) h le = absurd (omega (arith, le))
take-all (suc i) (suc k) (x ∷ xs) h le = ap (λ t. x ∷ t) (take-all i k xs h (omega (arith, le)))

drop-all : {A : Type 0} (i k : ℕ) (xs : List A) → drop i xs ≡ [] → i ≤ k → drop i xs ≡ drop k xs
drop-all zero zero [] h le = refl
drop-all zero (suc k) [] h le = refl
drop-all (suc i) zero [] h le = refl
drop-all (suc i) (suc k) [] h le = refl
drop-all zero k (x ∷ xs) h le = absurd (cc)
drop-all (suc i) zero (x ∷ xs) h le = absurd (omega (arith, le))
drop-all (suc i) (suc k) (x ∷ xs) h le = drop-all i k xs h (omega (arith, le))

none-left : (text : List ℕ) (at : ℕ) → length text ≤ at → drop at text ≡ []
none-left [] zero le = refl
none-left [] (suc at) le = refl
none-left (b ∷ text) zero le = absurd (omega (arith, le))
none-left (b ∷ text) (suc at) le = none-left text at (omega (arith, le))

-- ---- lines

-- So many bytes at the front of a text are so many lines.
pub record ArePassed (text : List ℕ) (at i : ℕ) : Type 0 where
  pub front : take at text ≡ concat (take i (physical_lines text))
  pub rest : physical_lines (drop at text) ≡ drop i (physical_lines text)

-- one line more
pub line-passed : (text rest : List ℕ) (at i n : ℕ) → ArePassed text at i → rest ≡ drop at text
    → physical_lines rest ≡ take n rest ∷ physical_lines (drop n rest) → ArePassed text (at + n) (i + 1)
line-passed text rest at i n h is line =
    let line-of : physical_lines (drop at text) ≡ take n (drop at text) ∷ physical_lines (drop n (drop at text)) =
    subst (λ r. physical_lines r ≡ take n r ∷ physical_lines (drop n r)) is line in
    let next = sym h.rest ∙ line-of in
    let one : suc i ≡ i + 1 = omega arith in record {
      front = take-add at n text ∙ ap (λ t. t ++ take n (drop at text)) h.front ∙ sym (concat-next i (physical_lines text) _ _ next)
          ∙ ap (λ k. concat (take k (physical_lines text))) one;
      rest = ap physical_lines (drop-add at n text) ∙ sym (drop-next i (physical_lines text) _ _ next) ∙ ap (λ k. drop k (physical_lines text)) one;
    }

-- at the end of a text no more lines come
pub all-passed : (text : List ℕ) (at i k : ℕ) → ArePassed text at i → length text ≤ at → i ≤ k → ArePassed text at k
all-passed text at i k h whole le =
    let none : drop i (physical_lines text) ≡ [] = sym h.rest ∙ ap physical_lines (none-left text at whole) in record {
      front = h.front ∙ ap concat (take-all i k (physical_lines text) none le);
      rest = h.rest ∙ drop-all i k (physical_lines text) none le;
    }

pub answer-more : (text : List ℕ) (n : ℕ) → physical_lines text ≡ take n text ∷ physical_lines (drop n text)
    → answer_lines text ≡ answer_line (take n text) ++ answer_lines (drop n text)
answer-more text n h = ap (flat_map answer_line) h
