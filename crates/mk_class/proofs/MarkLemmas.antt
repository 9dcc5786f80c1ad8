-- Lemmas of marks: the table, and the bits.
use Rattle.std.proofs.Common.{◌≡◌, refl, sym, ap, ◌∙◌, subst, ℕ, zero, suc, ◌+◌, ◌/◌, ◌^◌, ◌<◌, ◌≤◌, List, [], ◌∷◌, Bool, true, false, not, ◌||◌, ◌==◌, get_or, take, take_all, max, length, arith}
use Rattle.std.specs.Int.{bit_at}
use Rattle.std.specs.Prelude.{bit_or, bit_and}
use Rattle.std.specs.List.{list_any}
use Rattle.std.proofs.lemmas.Nat.Bits.{shr_and_one, bit_at_or, bit_at-lt}
use Rattle.std.proofs.lemmas.Bool.{eqb-true}
use Rattle.std.proofs.lemmas.List.Folds.{list_any_more}
use Rattle.memchr.specs.Find.{is_byte}
use Rattle.mk_class.proofs.HeaderLemmas.{any-same}
use Rattle.mk_class.specs.Marks.{bits_of, AreMarksOf}
use Rattle.mk_class.specs.declared.marks.Marks.{Marks}

-- ---- the table

-- the values of a function at m numbers from n on
abbrev values : (ℕ → ℕ) → (n m : ℕ) → List ℕ
values f n zero = []
values f n (suc m) = f n ∷ values f (suc n) m

value_at : (f : ℕ → ℕ) (n m k : ℕ) → k < m → get_or (values f n m) k 0 ≡ f (n + k)
value_at f n zero k l = absurd (omega arith)
value_at f n (suc m) zero l = let e : n ≡ n + 0 = omega arith in ap f e
value_at f n (suc m) (suc k) l =
    let e : suc n + k ≡ n + suc k = omega arith in
    value_at f (suc n) m k (omega arith) ∙ ap f e

pub table_value : (b : ℕ) → b < 256 → get_or (values bits_of 0 256) b 0 ≡ bits_of b
table_value b l = let e : 0 + b ≡ b = omega arith in value_at bits_of 0 256 b l ∙ ap bits_of e

-- ---- the bits

-- the test of a bit
pub has_bit : (n k : ℕ) → not (bit_and (n / 2 ^ k) 1 == 0) ≡ (bit_at n k == 1)
has_bit n k = ap (λ z. not (z == 0)) (shr_and_one n k) ∙ go (bit_at n k) (bit_at-lt n k)
  where
    go : (b : ℕ) → b < 2 → not (b == 0) ≡ (b == 1)
    go zero h = refl
    go (suc zero) h = refl
    go (suc (suc b)) h = absurd (omega arith)

-- a bit of two numbers together
or_bit : (a b k : ℕ) → (bit_at (bit_or a b) k == 1) ≡ ((bit_at a k == 1) || (bit_at b k == 1))
or_bit a b k = ap (λ z. z == 1) (bit_at_or a b k) ∙ go (bit_at a k) (bit_at b k) (bit_at-lt a k) (bit_at-lt b k)
  where
    go : (x y : ℕ) → x < 2 → y < 2 → (max x y == 1) ≡ ((x == 1) || (y == 1))
    go zero zero h l = refl
    go zero (suc zero) h l = refl
    go (suc zero) zero h l = refl
    go (suc zero) (suc zero) h l = refl
    go (suc (suc x)) y h l = absurd (omega arith)
    go x (suc (suc y)) h l = absurd (omega arith)

-- a bit after one more byte
pub more_bits : (bits b n : ℕ) (t : List ℕ) (k : ℕ) → (bit_at bits k == 1) ≡ list_any (λ x. bit_at (bits_of x) k == 1) (take n t) → n < length t → b ≡ bits_of (get_or t n 0)
    → (bit_at (bit_or bits b) k == 1) ≡ list_any (λ x. bit_at (bits_of x) k == 1) (take (n + 1) t)
more_bits bits b n t k h l e =
    or_bit bits b k
    ∙ (ap (λ z. z || (bit_at b k == 1)) h
    ∙ (ap (λ z. list_any (λ x. bit_at (bits_of x) k == 1) (take n t) || (bit_at z k == 1)) e
    ∙ sym (list_any_more (λ x. bit_at (bits_of x) k == 1) t n 0 l)))

-- a byte is one of those that tell lines apart, or another
telling-cases : (P : ℕ → Type 0) → P 35 → P 61 → P 59 → P 58 → P 124 → P 36 → P 92
    → ((x : ℕ) → (x == 35) ≡ false → (x == 61) ≡ false → (x == 59) ≡ false → (x == 58) ≡ false → (x == 124) ≡ false → (x == 36) ≡ false → (x == 92) ≡ false → P x) → (x : ℕ) → P x
telling-cases P a b c d e f g other x = go (x == 35) refl (x == 61) refl (x == 59) refl (x == 58) refl (x == 124) refl (x == 36) refl (x == 92) refl
  where
    is : (n : ℕ) → P n → (x == n) ≡ true → P x
    is n p h = subst P (sym (eqb-true x n h)) p

    go : (t : Bool) → (x == 35) ≡ t → (u : Bool) → (x == 61) ≡ u → (v : Bool) → (x == 59) ≡ v → (w : Bool) → (x == 58) ≡ w → (y : Bool) → (x == 124) ≡ y → (z : Bool) → (x == 36) ≡ z → (q : Bool) → (x == 92) ≡ q → P x
    go true h u i v j w k y l z m q n = is 35 a h
    go false h true i v j w k y l z m q n = is 61 b i
    go false h false i true j w k y l z m q n = is 59 c j
    go false h false i false j true k y l z m q n = is 58 d k
    go false h false i false j false k true l z m q n = is 124 e l
    go false h false i false j false k false l true m q n = is 36 f m
    go false h false i false j false k false l false m true n = is 92 g n
    go false h false i false j false k false l false m false n = other x h i j k l m n

no_bits : (x : ℕ) → (x == 35) ≡ false → (x == 61) ≡ false → (x == 59) ≡ false → (x == 58) ≡ false → (x == 124) ≡ false → (x == 36) ≡ false → (x == 92) ≡ false → bits_of x ≡ 0
no_bits x a b c d e f g = simp (a, b, c, d, e, f, g)

-- the bit at the place of a byte is set by that byte, and by no other
abbrev IsBitOf : (b k x : ℕ) → Type 0
IsBitOf b k x = (bit_at (bits_of x) k == 1) ≡ is_byte b x

hash-bit : (x : ℕ) → IsBitOf 35 0 x
hash-bit = telling-cases (IsBitOf 35 0) refl refl refl refl refl refl refl (λ x a b c d e f g. ap (λ z. bit_at z 0 == 1) (no_bits x a b c d e f g) ∙ sym a)

equals-bit : (x : ℕ) → IsBitOf 61 1 x
equals-bit = telling-cases (IsBitOf 61 1) refl refl refl refl refl refl refl (λ x a b c d e f g. ap (λ z. bit_at z 1 == 1) (no_bits x a b c d e f g) ∙ sym b)

semicolon-bit : (x : ℕ) → IsBitOf 59 2 x
semicolon-bit = telling-cases (IsBitOf 59 2) refl refl refl refl refl refl refl (λ x a b c d e f g. ap (λ z. bit_at z 2 == 1) (no_bits x a b c d e f g) ∙ sym c)

colon-bit : (x : ℕ) → IsBitOf 58 3 x
colon-bit = telling-cases (IsBitOf 58 3) refl refl refl refl refl refl refl (λ x a b c d e f g. ap (λ z. bit_at z 3 == 1) (no_bits x a b c d e f g) ∙ sym d)

bar-bit : (x : ℕ) → IsBitOf 124 4 x
bar-bit = telling-cases (IsBitOf 124 4) refl refl refl refl refl refl refl (λ x a b c d e f g. ap (λ z. bit_at z 4 == 1) (no_bits x a b c d e f g) ∙ sym e)

dollar-bit : (x : ℕ) → IsBitOf 36 5 x
dollar-bit = telling-cases (IsBitOf 36 5) refl refl refl refl refl refl refl (λ x a b c d e f g. ap (λ z. bit_at z 5 == 1) (no_bits x a b c d e f g) ∙ sym f)

backslash-bit : (x : ℕ) → IsBitOf 92 6 x
backslash-bit = telling-cases (IsBitOf 92 6) refl refl refl refl refl refl refl (λ x a b c d e f g. ap (λ z. bit_at z 6 == 1) (no_bits x a b c d e f g) ∙ sym g)

-- the bits of a text, once all of it was read, are its marks
pub marks-made : (m : Marks) (n : ℕ) (t : List ℕ) → length t ≤ n → ((k : ℕ) → (bit_at m.bits k == 1) ≡ list_any (λ x. bit_at (bits_of x) k == 1) (take n t)) → AreMarksOf m t
marks-made m n t l h = go
  where
    of : (b k : ℕ) → ((x : ℕ) → IsBitOf b k x) → (bit_at m.bits k == 1) ≡ list_any (is_byte b) t
    of b k e = h k ∙ (ap (list_any (λ x. bit_at (bits_of x) k == 1)) (take_all n t l) ∙ any-same (λ x. bit_at (bits_of x) k == 1) (is_byte b) e t)

    go : AreMarksOf m t
    go zero d l = of 35 0 hash-bit
    go (suc zero) d l = of 61 1 equals-bit
    go (suc (suc zero)) d l = of 59 2 semicolon-bit
    go (suc (suc (suc zero))) d l = of 58 3 colon-bit
    go (suc (suc (suc (suc zero)))) d l = of 124 4 bar-bit
    go (suc (suc (suc (suc (suc zero))))) d l = of 36 5 dollar-bit
    go (suc (suc (suc (suc (suc (suc zero)))))) d l = of 92 6 backslash-bit
    go (suc (suc (suc (suc (suc (suc (suc k))))))) d l = absurd (omega arith)
