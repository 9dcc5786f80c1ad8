-- Decimal digits.
use Rattle.std.proofs.Common.{◌≡◌, ℕ, ◌+◌, ◌*◌, ◌<◌, ◌≤◌, ◌^◌, Bool, true, false, List, [], ◌∷◌, refl, sym, ap, ◌∙◌, cond, length, take, arith, eqb-true, leb-true, le-leb, ltb-true, ltb-false, le-ltb, lt-ltb, get_or, ◌-◌, inl, inr, decimal}
use Rattle.std.specs.Prelude.{◌==◌, ◌||◌, ◌&&◌, not, nat_lt, nat_le, Some, None}
use Rattle.std.specs.List.{list_any, list_all}
use Rattle.std.specs.Char.{is_ascii_digit, digit_value}
use Rattle.std.specs.Str.Parse.{AllDigits, IsNumeral, digits_value}
use Rattle.std.proofs.lemmas.Int.Digits.{digits_value-lt, digits_value_more}
use Rattle.std.proofs.Math.Nat.{pow-le-pow_right}
use Rattle.std.proofs.lemmas.List.{length-take-le}
use Rattle.std.proofs.lemmas.List.Folds.{list_all_more}
use Rattle.std.proofs.lemmas.Fmt.{decimal_is_IsNumeral, length-decimal-le}
use Rattle.std.proofs.lemmas.Bool.{and_parts}
use Rattle.mk_script.specs.Numbers.{number, is_number}
use Rattle.mk_script.specs.SeenFields.{IsWrittenPlain, is_of_no_word}

-- a quote, a backslash or a line feed is no digit
special-digit : (b : ℕ) → is_of_no_word b ≡ true → is_ascii_digit b ≡ false
special-digit b h = go (b == 34) (b == 92) (b == 10) refl refl refl h
  where
    go : (p q r : Bool) → (b == 34) ≡ p → (b == 92) ≡ q → (b == 10) ≡ r → ((p || q) || r) ≡ true → is_ascii_digit b ≡ false
    go true q r e f g k = rw (eqb-true b 34 e) refl
    go false true r e f g k = rw (eqb-true b 92 f) refl
    go false false true e f g k = rw (eqb-true b 10 g) refl
    go false false false e f g k = absurd (cc)

not_all : (text : List ℕ) → list_any is_of_no_word text ≡ true → list_all is_ascii_digit text ≡ false
not_all [] h = absurd (cc)
not_all (b ∷ text) h = go (is_of_no_word b) refl (is_ascii_digit b) refl h (not_all text)
  where
    go : (c : Bool) → is_of_no_word b ≡ c → (d : Bool) → is_ascii_digit b ≡ d → (c || list_any is_of_no_word text) ≡ true
        → (list_any is_of_no_word text ≡ true → list_all is_ascii_digit text ≡ false) → (is_ascii_digit b && list_all is_ascii_digit text) ≡ false
    go true e d f k ih = rw (special-digit b e) refl
    go false e true f k ih = rw (f, ih k) refl
    go false e false f k ih = rw f refl

no_number : (text : List ℕ) → list_any is_of_no_word text ≡ true → number text ≡ None
no_number text h = go (not (nat_lt 10 (length text))) (nat_lt 0 (length text)) (not_all text h)
  where
    go : (a b : Bool) → list_all is_ascii_digit text ≡ false
        → cond (a && b && list_all is_ascii_digit text && nat_lt (digits_value 10 text) 4294967296) (Some (digits_value 10 text)) None ≡ None
    go true true e = rw e refl
    go true false e = refl
    go false b e = refl

-- a field and what stands in the line are the same number, or both are none
pub number-written : (field written : List ℕ) → IsWrittenPlain field written → number field ≡ number written
number-written field written h = elim h [ inl e ↦ ap (λ t. number t) (sym e) | inr (f, w) ↦ no_number field f ∙ sym (no_number written w) ]

-- a digit's value
digit-is : (b : ℕ) → is_ascii_digit b ≡ true → (digit_value b ≡ b - 48) × (digit_value b < 10)
digit-is b h =
    let parts = and_parts (nat_le 48 b) (nat_le b 57) h in
    let low : 48 ≤ b = leb-true 48 b parts.0 in
    let high : b < 58 = omega (arith, leb-true b 57 parts.1) in
    rw (le-ltb b 48 low, lt-ltb b 58 high) (refl, omega (arith, low, high))

digits-are : (text : List ℕ) → list_all is_ascii_digit text ≡ true → AllDigits 10 text
digits-are [] h = tt
digits-are (b ∷ text) h = go (is_ascii_digit b) refl h (digits-are text)
  where
    go : (c : Bool) → is_ascii_digit b ≡ c → (c && list_all is_ascii_digit text) ≡ true
        → (list_all is_ascii_digit text ≡ true → AllDigits 10 text) → (digit_value b < 10) × AllDigits 10 text
    go true e k ih = ((digit-is b e).1, ih k)
    go false e k ih = absurd (cc)

-- one digit more
pub digits-more : (text : List ℕ) (i : ℕ) → i < length text → list_all is_ascii_digit (take i text) ≡ true → is_ascii_digit (get_or text i 0) ≡ true
    → list_all is_ascii_digit (take (i + 1) text) ≡ true
digits-more text i h digits more = list_all_more is_ascii_digit text i 0 h ∙ rw (digits, more) refl

pub value-more : (text : List ℕ) (i : ℕ) → i < length text → is_ascii_digit (get_or text i 0) ≡ true
    → 10 * digits_value 10 (take i text) + (get_or text i 0 - 48) ≡ digits_value 10 (take (i + 1) text)
value-more text i h more = omega (arith, digits_value_more 10 text i h, (digit-is (get_or text i 0) more).0)

-- the value of at most nine digits is small
pub value-small : (text : List ℕ) (i : ℕ) → list_all is_ascii_digit (take i text) ≡ true → i < length text → i < 10 → digits_value 10 (take i text) < 1000000000
value-small text i h within few =
    let most : 10 ^ length (take i text) ≤ 10 ^ 9 = pow-le-pow_right {n = 10} (omega arith) {i = length (take i text)} {j = 9} (omega (arith, length-take-le i text (omega arith))) in
    omega (arith, digits_value-lt 10 (take i text) (digits-are (take i text) h), most)

-- ---- numbers and their digits

digit-from : (b : ℕ) → digit_value b < 10 → is_ascii_digit b ≡ true
digit-from b h = from_bounds (bounds (nat_lt b 48) (nat_lt b 58) (nat_lt b 65) (nat_lt b 91) (nat_lt b 97) (nat_lt b 123) refl refl refl refl refl refl h)
  where
    from_bounds : (48 ≤ b) × (b ≤ 57) → is_ascii_digit b ≡ true
    from_bounds k = rw (le-leb 48 b k.0, le-leb b 57 k.1) refl

    bounds : (p q r s t u : Bool) → nat_lt b 48 ≡ p → nat_lt b 58 ≡ q → nat_lt b 65 ≡ r → nat_lt b 91 ≡ s → nat_lt b 97 ≡ t → nat_lt b 123 ≡ u
        → cond p 36 (cond q (b - 48) (cond r 36 (cond s (b - 55) (cond t 36 (cond u (b - 87) 36))))) < 10 → (48 ≤ b) × (b ≤ 57)
    bounds true q r s t u e1 e2 e3 e4 e5 e6 k = absurd (omega (arith, k))
    bounds false true r s t u e1 e2 e3 e4 e5 e6 k = (ltb-false b 48 e1, omega (arith, ltb-true b 58 e2))
    bounds false false true s t u e1 e2 e3 e4 e5 e6 k = absurd (omega (arith, k))
    bounds false false false true t u e1 e2 e3 e4 e5 e6 k = absurd (omega (arith, k, ltb-false b 65 e3))
    bounds false false false false true u e1 e2 e3 e4 e5 e6 k = absurd (omega (arith, k))
    bounds false false false false false true e1 e2 e3 e4 e5 e6 k = absurd (omega (arith, k, ltb-false b 97 e5))
    bounds false false false false false false e1 e2 e3 e4 e5 e6 k = absurd (omega (arith, k))

all-from : (text : List ℕ) → AllDigits 10 text → list_all is_ascii_digit text ≡ true
all-from [] h = refl
all-from (b ∷ text) h = rw (digit-from b h.0, all-from text h.1) refl

is-number : (digits : List ℕ) (n : ℕ) → IsNumeral 10 digits → length digits ≤ 10 → digits_value 10 digits ≡ n → n ≤ 4294967295 → number digits ≡ Some n
is-number digits n numeral short value most =
    let few : nat_lt 10 (length digits) ≡ false = le-ltb 10 (length digits) short in
    let some : nat_lt 0 (length digits) ≡ true = lt-ltb 0 (length digits) numeral.0 in
    let small : nat_lt (digits_value 10 digits) 4294967296 ≡ true = lt-ltb (digits_value 10 digits) 4294967296 (omega (arith, most, value)) in
    let passes : is_number digits ≡ true = rw (few, some, all-from digits numeral.1, small) refl in
    ap (λ (c : Bool). cond c (Some (digits_value 10 digits)) None) passes ∙ ap (λ v. Some v) value

-- the digits of a number are this number
pub decimal-number : (n : ℕ) → n ≤ 4294967295 → number (decimal n) ≡ Some n
decimal-number n h =
    let is = decimal_is_IsNumeral n (omega (arith, h)) in
    is-number (decimal n) n is.0 (length-decimal-le 10 n (omega arith) (omega (arith, h)) (omega (arith, h))) is.1 h

-- its digits are digits, and have its value
pub digits-all : (n : ℕ) → n < 2 ^ 64 → list_all is_ascii_digit (decimal n) ≡ true
digits-all n h = all-from (decimal n) (decimal_is_IsNumeral n h).0.1

pub digits-value : (n : ℕ) → n < 2 ^ 64 → digits_value 10 (decimal n) ≡ n
digits-value n h = (decimal_is_IsNumeral n h).1
