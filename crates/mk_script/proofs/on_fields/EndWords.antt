-- The words with which blocks end: they differ, so one of them is no line of the block.
use Rattle.std.proofs.Common.{◌≡◌, ℕ, zero, suc, ◌+◌, ◌-◌, ◌<◌, ◌≤◌, ◌^◌, Bool, true, false, cond, List, [], ◌∷◌, length, drop, refl, sym, ap, ◌∙◌, subst, arith, add-one, eqb-true}
use Rattle.std.specs.Prelude.{◌==◌, ◌||◌, ◌&&◌, nat_le, decimal}
use Rattle.std.specs.List.{list_all, list_any}
use Rattle.std.specs.Char.{is_ascii_digit}
use Rattle.std.specs.Str.{bytes_eq}
use Rattle.std.specs.Str.Parse.{digits_value}
use Rattle.std.proofs.lemmas.Slice.Eq.{bytes_eq-Decides}
use Rattle.mk_script.specs.Blocks.{is_word, is_word_byte}
use Rattle.mk_script.specs.WrittenEdits.{end_word_of, has_line, free_number_from, free_word}
use Rattle.mk_script.proofs.on_fields.NumberLemmas.{digits-all, digits-value}

-- ---- words and their numbers

-- what stands behind the E
abbrev number_text : ℕ → List ℕ
number_text n = cond (n == 0) [] (decimal n)

number-value : (n : ℕ) → n < 2 ^ 64 → digits_value 10 (number_text n) ≡ n
number-value n h = go (n == 0) refl
  where
    go : (c : Bool) → (n == 0) ≡ c → digits_value 10 (cond c [] (decimal n)) ≡ n
    go true e = sym (eqb-true n 0 e)
    go false e = digits-value n h

word-same : (m n : ℕ) → m < 2 ^ 64 → n < 2 ^ 64 → end_word_of m ≡ end_word_of n → m ≡ n
word-same m n a b h = sym (number-value m a) ∙ (ap (λ t. digits_value 10 (drop 1 t)) h ∙ number-value n b)

digit-byte : (b : ℕ) → is_ascii_digit b ≡ true → is_word_byte b ≡ true
digit-byte b h =
    ap (λ q. (nat_le 97 b && nat_le b 122) || ((nat_le 65 b && nat_le b 90) || (q || b == 95))) h ∙ last (nat_le 97 b && nat_le b 122) (nat_le 65 b && nat_le b 90)
  where
    last : (x y : Bool) → (x || (y || true)) ≡ true
    last true y = refl
    last false true = refl
    last false false = refl

digit-bytes : (t : List ℕ) → list_all is_ascii_digit t ≡ true → list_all is_word_byte t ≡ true
digit-bytes [] h = refl
digit-bytes (b ∷ t) h = go (is_ascii_digit b) refl h (digit-bytes t)
  where
    go : (c : Bool) → is_ascii_digit b ≡ c → (c && list_all is_ascii_digit t) ≡ true → (list_all is_ascii_digit t ≡ true → list_all is_word_byte t ≡ true)
        → (is_word_byte b && list_all is_word_byte t) ≡ true
    go true e k ih = rw (digit-byte b e, ih k) refl
    go false e k ih = absurd (cc)

word-is : (n : ℕ) → n < 2 ^ 64 → is_word (end_word_of n) ≡ true
word-is n h = go (n == 0)
  where
    go : (c : Bool) → list_all is_word_byte (cond c [] (decimal n)) ≡ true
    go true = refl
    go false = digit-bytes (decimal n) (digits-all n h)

-- ---- one more word than lines

-- some lines, but those that are this word
abbrev without : (word : List ℕ) → List (List ℕ) → List (List ℕ)
without w [] = []
without w (l ∷ ls) = cond (bytes_eq l w) (without w ls) (l ∷ without w ls)

without-few : (w : List ℕ) (ls : List (List ℕ)) → length (without w ls) ≤ length ls
without-few w [] = omega arith
without-few w (l ∷ ls) = go (bytes_eq l w) (without-few w ls)
  where
    go : (c : Bool) → length (without w ls) ≤ length ls → length (cond c (without w ls) (l ∷ without w ls)) ≤ length (l ∷ ls)
    go true h = omega (arith, h)
    go false h = omega (arith, h)

without-fewer : (w : List ℕ) (ls : List (List ℕ)) → has_line ls w ≡ true → length (without w ls) < length ls
without-fewer w [] h = absurd (cc)
without-fewer w (l ∷ ls) h = go (bytes_eq l w) h (without-few w ls) (without-fewer w ls)
  where
    go : (c : Bool) → (c || has_line ls w) ≡ true → length (without w ls) ≤ length ls → (has_line ls w ≡ true → length (without w ls) < length ls)
        → length (cond c (without w ls) (l ∷ without w ls)) < length (l ∷ ls)
    go true k few ih = omega (arith, few)
    go false k few ih = let less = ih k in omega (arith, less)

others-had : (w v : List ℕ) (ls : List (List ℕ)) → (v ≡ w → ⊥) → has_line ls v ≡ true → has_line (without w ls) v ≡ true
others-had w v [] other h = h
others-had w v (l ∷ ls) other h = go (bytes_eq l w) (bytes_eq l v) refl refl h (others-had w v ls other)
  where
    go : (c d : Bool) → bytes_eq l w ≡ c → bytes_eq l v ≡ d → (d || has_line ls v) ≡ true → (has_line ls v ≡ true → has_line (without w ls) v ≡ true)
        → has_line (cond c (without w ls) (l ∷ without w ls)) v ≡ true
    go true true e f k ih = absurd (other (sym ((bytes_eq-Decides l v).0 f) ∙ (bytes_eq-Decides l w).0 e))
    go true false e f k ih = ih k
    go false true e f k ih = ap (λ q. q || has_line (without w ls) v) f
    go false false e f k ih = ap (λ q. q || has_line (without w ls) v) f ∙ ih k

-- the lines that are none of the first words
abbrev lines_but : (number : ℕ) → List (List ℕ) → List (List ℕ)
lines_but zero ls = ls
lines_but (suc n) ls = without (end_word_of n) (lines_but n ls)

word-left : (n m : ℕ) (ls : List (List ℕ)) → n ≤ m → m < 2 ^ 64 → has_line ls (end_word_of m) ≡ true → has_line (lines_but n ls) (end_word_of m) ≡ true
word-left zero m ls below small h = h
word-left (suc n) m ls below small h =
    others-had (end_word_of n) (end_word_of m) (lines_but n ls) (λ same. let e = word-same m n small (omega (arith, below, small)) same in omega (arith, e, below)) (word-left n m ls (omega (arith, below)) small h)

free-from : (n k : ℕ) (ls : List (List ℕ)) → n + k < 2 ^ 64 → length (lines_but n ls) ≤ k → has_line ls (end_word_of (free_number_from n k ls)) ≡ false
free-from n zero ls small few = go (has_line ls (end_word_of n)) refl
  where
    none : (rest : List (List ℕ)) → length rest ≤ 0 → has_line rest (end_word_of n) ≡ true → ⊥
    none [] short h = absurd (cc)
    none (l ∷ rest) short h = omega (arith, short)

    go : (c : Bool) → has_line ls (end_word_of n) ≡ c → c ≡ false
    go true e = absurd (none (lines_but n ls) few (word-left n n ls (omega arith) (omega (arith, small)) e))
    go false e = refl
free-from n (suc k) ls small few = go (has_line ls (end_word_of n)) refl (free-from (n + 1) k ls (omega (arith, small)))
  where
    go : (c : Bool) → has_line ls (end_word_of n) ≡ c → (length (lines_but (n + 1) ls) ≤ k → has_line ls (end_word_of (free_number_from (n + 1) k ls)) ≡ false)
        → has_line ls (end_word_of (cond c (free_number_from (n + 1) k ls) n)) ≡ false
    go true e ih =
        let less = without-fewer (end_word_of n) (lines_but n ls) (word-left n n ls (omega arith) (omega (arith, small)) e) in
        ih (subst (λ m. length (lines_but m ls) ≤ k) (sym (add-one n)) (omega (arith, less, few)))
    go false e ih = e

number-few : (n k : ℕ) (ls : List (List ℕ)) → free_number_from n k ls ≤ n + k
number-few n zero ls = omega arith
number-few n (suc k) ls = go (has_line ls (end_word_of n)) (number-few (n + 1) k ls)
  where
    go : (c : Bool) → free_number_from (n + 1) k ls ≤ n + 1 + k → cond c (free_number_from (n + 1) k ls) n ≤ n + suc k
    go true h = omega (arith, h)
    go false h = omega arith

pub free-word : (ls : List (List ℕ)) → length ls < 2 ^ 64 → has_line ls (free_word ls) ≡ false
free-word ls small = free-from 0 (length ls) ls (omega (arith, small)) (omega arith)

pub free-is : (ls : List (List ℕ)) → length ls < 2 ^ 64 → is_word (free_word ls) ≡ true
free-is ls small = word-is (free_number_from 0 (length ls) ls) (omega (arith, small, number-few 0 (length ls) ls))

-- ---- one word after the other

-- the words before this one are lines
pub record AreTried (ls : List (List ℕ)) (number : ℕ) : Type 0 where
  pub within : number ≤ length ls
  pub same : free_number_from 0 (length ls) ls ≡ free_number_from number (length ls - number) ls

pub none-tried : (ls : List (List ℕ)) → AreTried ls 0
none-tried ls = record { within = omega arith; same = ap (λ k. free_number_from 0 k ls) (omega arith) }

number-found : (n k : ℕ) (ls : List (List ℕ)) → has_line ls (end_word_of n) ≡ false → free_number_from n k ls ≡ n
number-found n zero ls h = refl
number-found n (suc k) ls h = ap (λ c. cond c (free_number_from (n + 1) k ls) n) h

pub word-found : (ls : List (List ℕ)) (n : ℕ) → AreTried ls n → has_line ls (end_word_of n) ≡ false → end_word_of n ≡ free_word ls
word-found ls n tried h = ap end_word_of (sym (tried.same ∙ number-found n (length ls - n) ls h))

pub word-tried : (ls : List (List ℕ)) (n : ℕ) → length ls < 2 ^ 64 → AreTried ls n → has_line ls (end_word_of n) ≡ true → AreTried ls (n + 1)
word-tried ls n small tried h = go (length ls - n) refl
  where
    go : (k : ℕ) → length ls - n ≡ k → AreTried ls (n + 1)
    go zero e =
        let last : free_number_from 0 (length ls) ls ≡ n = tried.same ∙ ap (λ k. free_number_from n k ls) e in
        let none : has_line ls (end_word_of n) ≡ false = subst (λ m. has_line ls (end_word_of m) ≡ false) last (free-word ls small) in
        absurd (cc)
    go (suc k) e =
        let within = tried.within in
        let rest : k ≡ length ls - (n + 1) = omega (arith, e) in
        record {
          within = omega (arith, e, within);
          same =
              tried.same ∙ (ap (λ j. free_number_from n j ls) e ∙ (ap (λ c. cond c (free_number_from (n + 1) k ls) n) h ∙ ap (λ j. free_number_from (n + 1) j ls) rest));
        }
