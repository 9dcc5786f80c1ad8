-- Which bytes have which kind and which mark.
use Rattle.std.proofs.Common.{◌≡◌, refl, ℕ, Bool, true, false, cond, inl, inr, sym, List, arith, Option, None, Some, is_some, suc, ◌<◌, [], ◌∷◌, length, get_or, zero}
use Rattle.std.specs.Prelude.{◌==◌, ◌⊎◌, ◌||◌}
use Rattle.std.specs.List.{list_any}
use Rattle.std.proofs.lemmas.Bool.{eqb-true}
use Rattle.memchr.specs.Find.{IsFirstByte}
use Rattle.mk_lines.specs.Bytes.{ByteKind, byte_kind, LineFeed, CarriageReturn, Backslash, Blank, Ordinary}
use Rattle.mk_lines.specs.Units.{byte_mark}
use Rattle.mk_lines.specs.Units.Mark.{Unmarked}

-- a choice that is not its first, or not its second
other_taken : {A : Type 0} (c : Bool) (x y z : A) → (x ≡ z → ⊥) → cond c x y ≡ z → y ≡ z
other_taken true x y z n h = absurd (n h)
other_taken false x y z n h = h

test_passes : {A : Type 0} (c : Bool) (x y z : A) → (y ≡ z → ⊥) → cond c x y ≡ z → c ≡ true
test_passes true x y z n h = refl
test_passes false x y z n h = absurd (n h)

after_blank : ℕ → ByteKind
after_blank b = cond (b == 9) Blank Ordinary

after_backslash : ℕ → ByteKind
after_backslash b = cond (b == 32) Blank (after_blank b)

after_carriage_return : ℕ → ByteKind
after_carriage_return b = cond (b == 92) Backslash (after_backslash b)

after_line_feed : ℕ → ByteKind
after_line_feed b = cond (b == 13) CarriageReturn (after_carriage_return b)

blank_or_ordinary : (b : ℕ) (k : ByteKind) → (Blank ≡ k → ⊥) → (Ordinary ≡ k → ⊥) → after_backslash b ≡ k → ⊥
unfolding after_blank after_backslash
blank_or_ordinary b k m n h =
    n (other_taken (b == 9) Blank Ordinary k m (other_taken (b == 32) Blank (after_blank b) k m h))

-- the only line feed is 10
pub line_feed-byte : (b : ℕ) → byte_kind b ≡ LineFeed → b ≡ 10
unfolding after_blank after_backslash after_carriage_return after_line_feed
line_feed-byte b h =
    eqb-true b 10
    (test_passes (b == 10) LineFeed (after_line_feed b) LineFeed
    (λ k. blank_or_ordinary b LineFeed (λ x. cc) (λ x. cc)
    (other_taken (b == 92) Backslash (after_backslash b) LineFeed (λ x. cc) (other_taken (b == 13) CarriageReturn (after_carriage_return b) LineFeed (λ x. cc) k))) h)

-- the only carriage return is 13
pub carriage_return-byte : (b : ℕ) → byte_kind b ≡ CarriageReturn → b ≡ 13
unfolding after_blank after_backslash after_carriage_return after_line_feed
carriage_return-byte b h =
    eqb-true b 13
    (test_passes (b == 13) CarriageReturn (after_carriage_return b) CarriageReturn
    (λ k. blank_or_ordinary b CarriageReturn (λ x. cc) (λ x. cc) (other_taken (b == 92) Backslash (after_backslash b) CarriageReturn (λ x. cc) k))
    (other_taken (b == 10) LineFeed (after_line_feed b) CarriageReturn (λ x. cc) h))

-- the only backslash is 92
pub backslash-byte : (b : ℕ) → byte_kind b ≡ Backslash → b ≡ 92
unfolding after_blank after_backslash after_carriage_return after_line_feed
backslash-byte b h =
    eqb-true b 92
    (test_passes (b == 92) Backslash (after_backslash b) Backslash (λ k. blank_or_ordinary b Backslash (λ x. cc) (λ x. cc) k)
    (other_taken (b == 13) CarriageReturn (after_carriage_return b) Backslash (λ x. cc)
    (other_taken (b == 10) LineFeed (after_line_feed b) Backslash (λ x. cc) h)))

-- a blank is a space or a tab
pub blank-byte : (b : ℕ) → byte_kind b ≡ Blank → (b ≡ 32) ⊎ (b ≡ 9)
unfolding after_blank after_backslash after_carriage_return after_line_feed
blank-byte b h =
    space_or_tab (b == 32) refl
    (other_taken (b == 92) Backslash (after_backslash b) Blank (λ x. cc)
    (other_taken (b == 13) CarriageReturn (after_carriage_return b) Blank (λ x. cc)
    (other_taken (b == 10) LineFeed (after_line_feed b) Blank (λ x. cc) h)))
  where
    space_or_tab : (c : Bool) → (b == 32) ≡ c → cond c Blank (after_blank b) ≡ Blank → (b ≡ 32) ⊎ (b ≡ 9)
    space_or_tab true e k = inl (eqb-true b 32 e)
    space_or_tab false e k = inr (eqb-true b 9 (test_passes (b == 9) Blank Ordinary Blank (λ x. cc) k))

-- a blank is nothing to units
pub blank-mark : (b : ℕ) → byte_kind b ≡ Blank → byte_mark b ≡ Unmarked
blank-mark b h = go (blank-byte b h)
  where
    go : (b ≡ 32) ⊎ (b ≡ 9) → byte_mark b ≡ Unmarked
    go (inl e) = rw e refl
    go (inr e) = rw e refl

any_none : (test : ℕ → Bool) (t : List ℕ) → ((k : ℕ) → k < length t → test (get_or t k 0) ≡ true → ⊥) → list_any test t ≡ false
any_none test [] h = refl
any_none test (x ∷ t) h = go (test x) refl (any_none test t (λ k l. h (suc k) (omega arith)))
  where
    go : (c : Bool) → test x ≡ c → list_any test t ≡ false → (c || list_any test t) ≡ false
    go true e i = absurd (h 0 (omega arith) e)
    go false e i = i

any_some : (test : ℕ → Bool) (t : List ℕ) (k : ℕ) → k < length t → test (get_or t k 0) ≡ true → list_any test t ≡ true
any_some test [] k l h = absurd (omega arith)
any_some test (x ∷ t) zero l h = rw h refl
any_some test (x ∷ t) (suc k) l h = go (test x) (any_some test t k (omega arith) h)
  where
    go : (c : Bool) → list_any test t ≡ true → (c || list_any test t) ≡ true
    go true i = refl
    go false i = i

-- a search finds a byte where there is one
pub search-any : (test : ℕ → Bool) (t : List ℕ) (r : Option ℕ) → IsFirstByte test t r → is_some r ≡ list_any test t
search-any test t None h = sym (any_none test t (λ k l. h k (omega arith) l))
search-any test t (Some k) h = sym (any_some test t k h.0.high h.1)
