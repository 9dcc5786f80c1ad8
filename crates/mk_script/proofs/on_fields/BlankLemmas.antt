-- Blanks at the front of a text, and the bytes before the first blank.
use Rattle.std.proofs.Common.{◌≡◌, ℕ, suc, ◌+◌, Bool, true, false, List, [], ◌∷◌, ◌++◌, refl, sym, cond, take, drop, arith}
use Rattle.std.specs.Prelude.{not}
use Rattle.std.specs.List.{prefix_len}
use Rattle.std.proofs.lemmas.List.{take-append-drop, append-nil}
use Rattle.mk_lines.specs.Lists.{Each}
use Rattle.mk_lines.specs.Bytes.{is_blank_byte}
use Rattle.mk_script.specs.Fields.{EndsField}
use Rattle.mk_script.specs.FieldReading.{after_blanks, blanks_before, is_blank, is_empty, ends_field}

pub one_more : (n : ℕ) → 1 + n ≡ suc n
one_more n = omega arith

-- a front whose elements all pass the test is what is taken, if the rest begins with no element that passes
pub prefix-taken : (p : ℕ → Bool) (front rest : List ℕ) → Each p front → prefix_len p rest ≡ 0 → take (prefix_len p (front ++ rest)) (front ++ rest) ≡ front
prefix-taken p [] rest h stops = rw stops refl
prefix-taken p (x ∷ front) rest h stops = rw (h.0, one_more (prefix_len p (front ++ rest)), prefix-taken p front rest h.1 stops) refl

pub prefix-dropped : (p : ℕ → Bool) (front rest : List ℕ) → Each p front → drop (prefix_len p (front ++ rest)) (front ++ rest) ≡ drop (prefix_len p rest) rest
prefix-dropped p [] rest h = refl
prefix-dropped p (x ∷ front) rest h = rw (h.0, one_more (prefix_len p (front ++ rest)), prefix-dropped p front rest h.1) refl

pub prefix-passes : (p : ℕ → Bool) (xs : List ℕ) → Each p (take (prefix_len p xs) xs)
prefix-passes p [] = tt
prefix-passes p (x ∷ xs) = go (p x) refl (prefix-passes p xs)
  where
    go : (c : Bool) → p x ≡ c → Each p (take (prefix_len p xs) xs) → Each p (take (cond c (1 + prefix_len p xs) 0) (x ∷ xs))
    go true e h = rw (one_more (prefix_len p xs)) (e, h)
    go false e h = tt

-- what follows the front begins with an element that fails the test
abbrev pub Stops : (ℕ → Bool) → List ℕ → Type 0
Stops p [] = Unit {0}
Stops p (x ∷ xs) = p x ≡ false

pub prefix-stops : (p : ℕ → Bool) (xs : List ℕ) → Stops p (drop (prefix_len p xs) xs)
prefix-stops p [] = tt
prefix-stops p (x ∷ xs) = go (p x) refl (prefix-stops p xs)
  where
    go : (c : Bool) → p x ≡ c → Stops p (drop (prefix_len p xs) xs) → Stops p (drop (cond c (1 + prefix_len p xs) 0) (x ∷ xs))
    go true e h = rw (one_more (prefix_len p xs)) h
    go false e h = e

pub stops-none : (p : ℕ → Bool) (xs : List ℕ) → Stops p xs → prefix_len p xs ≡ 0
stops-none p [] h = refl
stops-none p (x ∷ xs) h = rw h refl

-- ---- blanks

pub over-blanks : (blanks text : List ℕ) → Each is_blank_byte blanks → after_blanks (blanks ++ text) ≡ after_blanks text
over-blanks blanks text h = prefix-dropped is_blank_byte blanks text h

pub after_blanks-none : (text : List ℕ) → Stops is_blank_byte text → after_blanks text ≡ text
after_blanks-none text h = rw (stops-none is_blank_byte text h) refl

pub blanks-whole : (text : List ℕ) → text ≡ take (blanks_before text) text ++ after_blanks text
blanks-whole text = sym (take-append-drop (blanks_before text) text)

-- a text is blanks exactly where nothing follows its blanks
pub blank-is : (text : List ℕ) → is_blank text ≡ true → Each is_blank_byte text
blank-is text h = go (after_blanks text) refl h
  where
    go : (rest : List ℕ) → after_blanks text ≡ rest → is_empty rest ≡ true → Each is_blank_byte text
    go [] e k = rw (blanks-whole text, e) (rw (append-nil (take (blanks_before text) text)) (prefix-passes is_blank_byte text))
    go (b ∷ rest) e k = absurd (cc)

pub is-blank : (text : List ℕ) → Each is_blank_byte text → is_blank text ≡ true
is-blank text h = rw (sym (append-nil text), over-blanks text [] h) refl

-- a text that ends a field
pub ends-is : (text : List ℕ) → ends_field text ≡ true → EndsField text
ends-is [] h = tt
ends-is (b ∷ text) h = h

pub is-end : (text : List ℕ) → EndsField text → ends_field text ≡ true
is-end [] h = refl
is-end (b ∷ text) h = h

-- no bare field goes on into such a text
pub end-stops : (text : List ℕ) → EndsField text → Stops (λ b. not (is_blank_byte b)) text
end-stops [] h = tt
end-stops (b ∷ text) h = rw h refl

pub stops-end : (text : List ℕ) → Stops (λ b. not (is_blank_byte b)) text → EndsField text
stops-end [] h = tt
stops-end (b ∷ text) h = go (is_blank_byte b) refl h
  where
    go : (c : Bool) → is_blank_byte b ≡ c → not c ≡ false → is_blank_byte b ≡ true
    go true e k = e
    go false e k = absurd (cc)
