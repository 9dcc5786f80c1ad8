-- The machine that cuts units agrees with what a unit is: each is the first unit of the rest of the text, and a text is closed if
-- no unit leaves it open.
use Rattle.std.proofs.Common.{◌≡◌, refl, sym, ap, ◌∙◌, subst, ℕ, suc, zero, ◌+◌, List, [], ◌∷◌, ◌++◌, Bool, true, false, not, ◌||◌, cond, length, drop, append_assoc, arith, inl, inr}
use Rattle.std.specs.Prelude.{◌==◌, ◌⊎◌}
use Rattle.std.proofs.lemmas.List.{append-nil}
use Rattle.std.proofs.lemmas.Bool.Decides.{Decides-eqb}
use Rattle.std.proofs.Math.Bool.{not-not}
use Rattle.std.proofs.lemmas.Bool.{or_from}
use Rattle.mk_lines.specs.Cut.{state_after, continuation, pieces}
use Rattle.mk_lines.proofs.on_lists.CutLemmas.{continuation-start, pieces-after_continuation}
use Rattle.mk_lines.specs.Units.{Mark, byte_mark, UnitState, next_unit_state, begins_unit, is_between, units, unit_step, unit_begins, is_closed}
use Rattle.mk_lines.specs.Units.Mark.{Dollar, Escape, OpenParen, CloseParen, OpenBrace, CloseBrace, Unmarked}
use Rattle.mk_lines.specs.Units.UnitState.{Between, AfterDollar, AfterBackslash, InParens, InBraces}
use Rattle.mk_lines.specs.FirstUnit.{least_prefix, least_prefix_after, mark_count, is_open_paren, is_close_paren, is_open_brace, is_close_brace, has_level_parens, has_level_braces, dollar_unit_at, dollar_unit, backslash_unit_at, backslash_unit, unit_at, first_unit, after_first_unit, is_unclosed_at, is_unclosed_by, is_unclosed_unit, is_lone_backslash, leaves_open}
use Rattle.mk_lines.proofs.on_units.UnitLemmas.{begins-always, step-again}

-- ---- numbers of brackets

equal_numbers : (a b : ℕ) → a ≡ b → (a == b) ≡ true
equal_numbers a b h = (Decides-eqb a b).1 h

unequal_numbers : (a b n : ℕ) → a ≡ b + suc n → (a == b) ≡ false
unequal_numbers a b n h = go (a == b) refl
  where
    go : (c : Bool) → (a == b) ≡ c → c ≡ false
    go true e = absurd (let k : a ≡ b = (Decides-eqb a b).0 e in omega arith)
    go false e = refl

one_more : (a b n c d : ℕ) → a ≡ b + suc n → c ≡ a + 1 → d ≡ b + 0 → c ≡ d + suc (suc n)
one_more a b n c d h i j = omega arith

one_less : (a b n c d : ℕ) → a ≡ b + suc (suc n) → c ≡ a + 0 → d ≡ b + 1 → c ≡ d + suc n
one_less a b n c d h i j = omega arith

last_one : (a b c d : ℕ) → a ≡ b + suc zero → c ≡ a + 0 → d ≡ b + 1 → c ≡ d
last_one a b c d h i j = omega arith

as_many : (a b n c d : ℕ) → a ≡ b + suc n → c ≡ a + 0 → d ≡ b + 0 → c ≡ d + suc n
as_many a b n c d h i j = omega arith

add_nothing : (n : ℕ) → n ≡ 0 + n
add_nothing n = omega arith

add_twice : (a b c : ℕ) → a + (b + c) ≡ (a + b) + c
add_twice a b c = omega arith

module _ {A : Type 0} (byte : A → ℕ) where
  mark_count-append : (p : Mark → Bool) (a b : List A) → mark_count byte p (a ++ b) ≡ mark_count byte p a + mark_count byte p b
  mark_count-append p [] b = add_nothing (mark_count byte p b)
  mark_count-append p (x ∷ a) b =
      ap (λ n. cond (p (byte_mark (byte x))) 1 0 + n) (mark_count-append p a b) ∙ add_twice (cond (p (byte_mark (byte x))) 1 0) (mark_count byte p a) (mark_count byte p b)

  -- the count of one element more, for which the test is known
  mark_count-one : (p : Mark → Bool) (a : List A) (x : A) (c : Bool) → p (byte_mark (byte x)) ≡ c → mark_count byte p (a ++ x ∷ []) ≡ mark_count byte p a + (cond c 1 0 + 0)
  mark_count-one p a x c h = mark_count-append p a (x ∷ []) ∙ ap (λ z. mark_count byte p a + (cond z 1 0 + 0)) h

-- What the machine does inside a reference, of either kind of brackets: `inside` is its state, and the tests are those of its
-- own two brackets.
record IsReference (inside : ℕ → UnitState) (opens closes : Mark → Bool) : Type 0 where
  goes_on : (n : ℕ) (m : Mark) → begins_unit (inside n) m ≡ false
  apart : (m : Mark) → opens m ≡ true → closes m ≡ false
  at_open : (n : ℕ) (m : Mark) → opens m ≡ true → next_unit_state (inside n) m ≡ inside (suc n)
  at_last : (m : Mark) → closes m ≡ true → next_unit_state (inside zero) m ≡ Between
  at_close : (n : ℕ) (m : Mark) → closes m ≡ true → next_unit_state (inside (suc n)) m ≡ inside n
  at_other : (n : ℕ) (m : Mark) → opens m ≡ false → closes m ≡ false → next_unit_state (inside n) m ≡ inside n

parens : IsReference InParens is_open_paren is_close_paren
parens = record {
  goes_on = λ n m. refl;
  apart = apart;
  at_open = at_open;
  at_last = at_last;
  at_close = at_close;
  at_other = at_other;
}
  where
    apart : (m : Mark) → is_open_paren m ≡ true → is_close_paren m ≡ false
    apart OpenParen h = refl
    apart CloseParen h = cc
    apart Dollar h = refl
    apart Escape h = refl
    apart OpenBrace h = refl
    apart CloseBrace h = refl
    apart Unmarked h = refl

    at_open : (n : ℕ) (m : Mark) → is_open_paren m ≡ true → next_unit_state (InParens n) m ≡ InParens (suc n)
    at_open zero OpenParen h = refl
    at_open (suc n) OpenParen h = refl
    at_open n CloseParen h = cc
    at_open n Dollar h = cc
    at_open n Escape h = cc
    at_open n OpenBrace h = cc
    at_open n CloseBrace h = cc
    at_open n Unmarked h = cc

    at_last : (m : Mark) → is_close_paren m ≡ true → next_unit_state (InParens zero) m ≡ Between
    at_last CloseParen h = refl
    at_last OpenParen h = cc
    at_last Dollar h = cc
    at_last Escape h = cc
    at_last OpenBrace h = cc
    at_last CloseBrace h = cc
    at_last Unmarked h = cc

    at_close : (n : ℕ) (m : Mark) → is_close_paren m ≡ true → next_unit_state (InParens (suc n)) m ≡ InParens n
    at_close n CloseParen h = refl
    at_close n OpenParen h = cc
    at_close n Dollar h = cc
    at_close n Escape h = cc
    at_close n OpenBrace h = cc
    at_close n CloseBrace h = cc
    at_close n Unmarked h = cc

    at_other : (n : ℕ) (m : Mark) → is_open_paren m ≡ false → is_close_paren m ≡ false → next_unit_state (InParens n) m ≡ InParens n
    at_other n OpenParen h k = cc
    at_other n CloseParen h k = cc
    at_other zero Dollar h k = refl
    at_other zero Escape h k = refl
    at_other zero OpenBrace h k = refl
    at_other zero CloseBrace h k = refl
    at_other zero Unmarked h k = refl
    at_other (suc n) Dollar h k = refl
    at_other (suc n) Escape h k = refl
    at_other (suc n) OpenBrace h k = refl
    at_other (suc n) CloseBrace h k = refl
    at_other (suc n) Unmarked h k = refl

braces : IsReference InBraces is_open_brace is_close_brace
braces = record {
  goes_on = λ n m. refl;
  apart = apart;
  at_open = at_open;
  at_last = at_last;
  at_close = at_close;
  at_other = at_other;
}
  where
    apart : (m : Mark) → is_open_brace m ≡ true → is_close_brace m ≡ false
    apart OpenBrace h = refl
    apart CloseBrace h = cc
    apart Dollar h = refl
    apart Escape h = refl
    apart OpenParen h = refl
    apart CloseParen h = refl
    apart Unmarked h = refl

    at_open : (n : ℕ) (m : Mark) → is_open_brace m ≡ true → next_unit_state (InBraces n) m ≡ InBraces (suc n)
    at_open zero OpenBrace h = refl
    at_open (suc n) OpenBrace h = refl
    at_open n CloseBrace h = cc
    at_open n Dollar h = cc
    at_open n Escape h = cc
    at_open n OpenParen h = cc
    at_open n CloseParen h = cc
    at_open n Unmarked h = cc

    at_last : (m : Mark) → is_close_brace m ≡ true → next_unit_state (InBraces zero) m ≡ Between
    at_last CloseBrace h = refl
    at_last OpenBrace h = cc
    at_last Dollar h = cc
    at_last Escape h = cc
    at_last OpenParen h = cc
    at_last CloseParen h = cc
    at_last Unmarked h = cc

    at_close : (n : ℕ) (m : Mark) → is_close_brace m ≡ true → next_unit_state (InBraces (suc n)) m ≡ InBraces n
    at_close n CloseBrace h = refl
    at_close n OpenBrace h = cc
    at_close n Dollar h = cc
    at_close n Escape h = cc
    at_close n OpenParen h = cc
    at_close n CloseParen h = cc
    at_close n Unmarked h = cc

    at_other : (n : ℕ) (m : Mark) → is_open_brace m ≡ false → is_close_brace m ≡ false → next_unit_state (InBraces n) m ≡ InBraces n
    at_other n OpenBrace h k = cc
    at_other n CloseBrace h k = cc
    at_other zero Dollar h k = refl
    at_other zero Escape h k = refl
    at_other zero OpenParen h k = refl
    at_other zero CloseParen h k = refl
    at_other zero Unmarked h k = refl
    at_other (suc n) Dollar h k = refl
    at_other (suc n) Escape h k = refl
    at_other (suc n) OpenParen h k = refl
    at_other (suc n) CloseParen h k = refl
    at_other (suc n) Unmarked h k = refl

module _ {A : Type 0} (byte : A → ℕ) (inside : ℕ → UnitState) (opens closes : Mark → Bool) (laws : IsReference inside opens closes) where
  level : List A → Bool
  level t = mark_count byte opens t == mark_count byte closes t

  -- this number of brackets of a text are open
  abbrev HasOpen : List A → ℕ → Type 0
  HasOpen t n = mark_count byte opens t ≡ mark_count byte closes t + suc n

  HasOpen-not_level : (t : List A) (n : ℕ) → HasOpen t n → level t ≡ false
  unfolding level
  HasOpen-not_level t n h = unequal_numbers (mark_count byte opens t) (mark_count byte closes t) n h

  -- One element more: the brackets are level and the reference ends, or not, and it goes on.
  step : (n : ℕ) (t : List A) (x : A) → HasOpen t n
      → ((next_unit_state (inside n) (byte_mark (byte x)) ≡ Between) × (level (t ++ x ∷ []) ≡ true))
      ⊎ ((k : ℕ) × (next_unit_state (inside n) (byte_mark (byte x)) ≡ inside k) × HasOpen (t ++ x ∷ []) k)
  unfolding level
  step n t x h = by_tests n h (opens (byte_mark (byte x))) refl (closes (byte_mark (byte x))) refl
    where
      by_tests : (n : ℕ) → HasOpen t n → (a : Bool) → opens (byte_mark (byte x)) ≡ a → (b : Bool) → closes (byte_mark (byte x)) ≡ b
          → ((next_unit_state (inside n) (byte_mark (byte x)) ≡ Between) × ((mark_count byte opens (t ++ x ∷ []) == mark_count byte closes (t ++ x ∷ [])) ≡ true))
          ⊎ ((k : ℕ) × (next_unit_state (inside n) (byte_mark (byte x)) ≡ inside k) × HasOpen (t ++ x ∷ []) k)
      by_tests n h true e b f =
          inr (
            suc n,
            laws.at_open n (byte_mark (byte x)) e,
            one_more _ _ n _ _ h (mark_count-one byte opens t x true e) (mark_count-one byte closes t x false (laws.apart (byte_mark (byte x)) e)),
          )
      by_tests zero h false e true f =
          inl (
            laws.at_last (byte_mark (byte x)) f,
            equal_numbers _ _ (last_one _ _ _ _ h (mark_count-one byte opens t x false e) (mark_count-one byte closes t x true f)),
          )
      by_tests (suc n) h false e true f =
          inr (n, laws.at_close n (byte_mark (byte x)) f, one_less _ _ n _ _ h (mark_count-one byte opens t x false e) (mark_count-one byte closes t x true f))
      by_tests n h false e false f =
          inr (n, laws.at_other n (byte_mark (byte x)) e f, as_many _ _ n _ _ h (mark_count-one byte opens t x false e) (mark_count-one byte closes t x false f))

  -- the rest of a reference goes up to the least offset at which its brackets are level
  reference-rest : (n : ℕ) (seen r : List A) → HasOpen seen n
      → least_prefix_after level seen r ≡ seen ++ continuation (unit_step byte) (unit_begins byte) (inside n) r
  reference-rest n seen [] h = sym (append-nil seen)
  reference-rest n seen (x ∷ r) h = go (step n seen x h) (λ k. reference-rest k (seen ++ x ∷ []) r)
    where
      goes : seen ++ cond (begins_unit (inside n) (byte_mark (byte x))) [] (x ∷ continuation (unit_step byte) (unit_begins byte) (next_unit_state (inside n) (byte_mark (byte x))) r)
          ≡ seen ++ (x ∷ continuation (unit_step byte) (unit_begins byte) (next_unit_state (inside n) (byte_mark (byte x))) r)
      goes = ap (λ c. seen ++ cond c [] (x ∷ continuation (unit_step byte) (unit_begins byte) (next_unit_state (inside n) (byte_mark (byte x))) r)) (laws.goes_on n (byte_mark (byte x)))

      go : ((next_unit_state (inside n) (byte_mark (byte x)) ≡ Between) × (level (seen ++ x ∷ []) ≡ true))
          ⊎ ((k : ℕ) × (next_unit_state (inside n) (byte_mark (byte x)) ≡ inside k) × HasOpen (seen ++ x ∷ []) k)
          → ((k : ℕ) → HasOpen (seen ++ x ∷ []) k → least_prefix_after level (seen ++ x ∷ []) r ≡ (seen ++ x ∷ []) ++ continuation (unit_step byte) (unit_begins byte) (inside k) r)
          → cond (level (seen ++ x ∷ [])) (seen ++ x ∷ []) (least_prefix_after level (seen ++ x ∷ []) r)
          ≡ seen ++ cond (begins_unit (inside n) (byte_mark (byte x))) [] (x ∷ continuation (unit_step byte) (unit_begins byte) (next_unit_state (inside n) (byte_mark (byte x))) r)
      go (inl h) ih =
          ap (λ c. cond c (seen ++ x ∷ []) (least_prefix_after level (seen ++ x ∷ []) r)) h.1
          ∙ sym (goes ∙ ap (λ l. seen ++ (x ∷ l)) (ap (λ s. continuation (unit_step byte) (unit_begins byte) s r) h.0 ∙ continuation-start (unit_step byte) (unit_begins byte) Between (begins-always byte) r))
      go (inr h) ih =
          ap (λ c. cond c (seen ++ x ∷ []) (least_prefix_after level (seen ++ x ∷ []) r)) (HasOpen-not_level (seen ++ x ∷ []) h.0 h.2)
          ∙ (ih h.0 h.2
          ∙ (append_assoc seen (x ∷ []) (continuation (unit_step byte) (unit_begins byte) (inside h.0) r)
          ∙ sym (goes ∙ ap (λ s. seen ++ (x ∷ continuation (unit_step byte) (unit_begins byte) s r)) h.1)))

-- ---- each unit is the first of the rest

module _ {A : Type 0} (byte : A → ℕ) where
  unit_continuation : UnitState → List A → List A
  unit_continuation s t = continuation (unit_step byte) (unit_begins byte) s t

  nothing-between : (t : List A) → unit_continuation Between t ≡ []
  unfolding unit_continuation
  nothing-between t = continuation-start (unit_step byte) (unit_begins byte) Between (begins-always byte) t

  -- the first bracket of a reference, by itself
  one_open : (opens closes : Mark → Bool) (y : A) → opens (byte_mark (byte y)) ≡ true → closes (byte_mark (byte y)) ≡ false
      → mark_count byte opens (y ∷ []) ≡ mark_count byte closes (y ∷ []) + suc zero
  one_open opens closes y h k = ap (λ c. cond c 1 0 + 0) h ∙ sym (ap (λ c. cond c 1 0 + 0 + suc zero) k)

  parens-rest : (y : A) (r : List A) → byte_mark (byte y) ≡ OpenParen → least_prefix (has_level_parens byte) (y ∷ r) ≡ y ∷ unit_continuation (InParens 0) r
  unfolding level unit_continuation
  parens-rest y r h =
      let o : mark_count byte is_open_paren (y ∷ []) ≡ mark_count byte is_close_paren (y ∷ []) + suc zero = one_open is_open_paren is_close_paren y (ap is_open_paren h) (ap is_close_paren h) in
      ap (λ c. cond c (y ∷ []) (least_prefix_after (has_level_parens byte) (y ∷ []) r)) (HasOpen-not_level byte InParens is_open_paren is_close_paren parens (y ∷ []) zero o)
      ∙ reference-rest byte InParens is_open_paren is_close_paren parens zero (y ∷ []) r o

  braces-rest : (y : A) (r : List A) → byte_mark (byte y) ≡ OpenBrace → least_prefix (has_level_braces byte) (y ∷ r) ≡ y ∷ unit_continuation (InBraces 0) r
  unfolding level unit_continuation
  braces-rest y r h =
      let o : mark_count byte is_open_brace (y ∷ []) ≡ mark_count byte is_close_brace (y ∷ []) + suc zero = one_open is_open_brace is_close_brace y (ap is_open_brace h) (ap is_close_brace h) in
      ap (λ c. cond c (y ∷ []) (least_prefix_after (has_level_braces byte) (y ∷ []) r)) (HasOpen-not_level byte InBraces is_open_brace is_close_brace braces (y ∷ []) zero o)
      ∙ reference-rest byte InBraces is_open_brace is_close_brace braces zero (y ∷ []) r o

  after-dollar : (d : A) (t : List A) → d ∷ unit_continuation AfterDollar t ≡ dollar_unit byte d t
  unfolding unit_continuation
  after-dollar d [] = refl
  after-dollar d (y ∷ r) = go (byte_mark (byte y)) refl
    where
      go : (m : Mark) → byte_mark (byte y) ≡ m → d ∷ (y ∷ unit_continuation (next_unit_state AfterDollar m) r) ≡ dollar_unit_at byte m d y r
      go OpenParen h = ap (λ l. d ∷ l) (sym (parens-rest y r h))
      go OpenBrace h = ap (λ l. d ∷ l) (sym (braces-rest y r h))
      go CloseParen h = ap (λ l. d ∷ (y ∷ l)) (nothing-between r)
      go CloseBrace h = ap (λ l. d ∷ (y ∷ l)) (nothing-between r)
      go Dollar h = ap (λ l. d ∷ (y ∷ l)) (nothing-between r)
      go Escape h = ap (λ l. d ∷ (y ∷ l)) (nothing-between r)
      go Unmarked h = ap (λ l. d ∷ (y ∷ l)) (nothing-between r)

  after-backslash : (b : A) (t : List A) → b ∷ unit_continuation AfterBackslash t ≡ backslash_unit byte b t
  unfolding unit_continuation
  after-backslash b [] = refl
  after-backslash b (y ∷ r) = go (byte_mark (byte y))
    where
      go : (m : Mark) → b ∷ cond (begins_unit AfterBackslash m) [] (y ∷ unit_continuation (next_unit_state AfterBackslash m) r) ≡ backslash_unit_at byte m b y
      go Dollar = refl
      go OpenParen = ap (λ l. b ∷ (y ∷ l)) (nothing-between r)
      go OpenBrace = ap (λ l. b ∷ (y ∷ l)) (nothing-between r)
      go CloseParen = ap (λ l. b ∷ (y ∷ l)) (nothing-between r)
      go CloseBrace = ap (λ l. b ∷ (y ∷ l)) (nothing-between r)
      go Escape = ap (λ l. b ∷ (y ∷ l)) (nothing-between r)
      go Unmarked = ap (λ l. b ∷ (y ∷ l)) (nothing-between r)

  -- what the machine cuts at the front of a text is its first unit
  continuation-first_unit : (x : A) (t : List A) → x ∷ unit_continuation (unit_step byte Between x) t ≡ first_unit byte (x ∷ t)
  continuation-first_unit x t = go (byte_mark (byte x))
    where
      go : (m : Mark) → x ∷ unit_continuation (next_unit_state Between m) t ≡ unit_at byte m x t
      go Dollar = after-dollar x t
      go Escape = after-backslash x t
      go OpenParen = ap (λ l. x ∷ l) (nothing-between t)
      go CloseParen = ap (λ l. x ∷ l) (nothing-between t)
      go OpenBrace = ap (λ l. x ∷ l) (nothing-between t)
      go CloseBrace = ap (λ l. x ∷ l) (nothing-between t)
      go Unmarked = ap (λ l. x ∷ l) (nothing-between t)

  -- the units of a text are its first unit and then those of what follows it
  pub units-first_unit : (x : A) (t : List A) → units byte (x ∷ t) ≡ first_unit byte (x ∷ t) ∷ units byte (after_first_unit byte (x ∷ t))
  unfolding unit_continuation
  units-first_unit x t =
      ap (λ us. (x ∷ unit_continuation (unit_step byte Between x) t) ∷ us) (pieces-after_continuation (unit_step byte) (unit_begins byte) Between (begins-always byte) (step-again byte) (unit_step byte Between x) t)
      ∙ ap (λ u. u ∷ units byte (drop (length u) (x ∷ t))) (continuation-first_unit x t)

-- ---- a text is closed if no unit leaves it open

module _ {A : Type 0} (byte : A → ℕ) where
  -- a reference that has begun with a bracket; this number of its brackets are open
  abbrev IsOpenReference : (first : Mark) (opens closes : Mark → Bool) → ℕ → List A → Type 0
  IsOpenReference first opens closes n u =
      (d : A) × (y : A) × (r : List A) × (u ≡ d ∷ (y ∷ r)) × (byte_mark (byte d) ≡ Dollar) × (byte_mark (byte y) ≡ first)
      × (mark_count byte opens (y ∷ r) ≡ mark_count byte closes (y ∷ r) + suc n)

  -- the part of a unit that has been read, by the state after it; between two units it is a whole unit
  abbrev IsRead : UnitState → List A → Type 0
  IsRead Between u = (is_unclosed_unit byte u ≡ false) × (is_lone_backslash byte u ≡ false)
  IsRead AfterDollar u = (d : A) × (u ≡ d ∷ []) × (byte_mark (byte d) ≡ Dollar)
  IsRead AfterBackslash u = (d : A) × (u ≡ d ∷ []) × (byte_mark (byte d) ≡ Escape)
  IsRead (InParens n) u = IsOpenReference OpenParen is_open_paren is_close_paren n u
  IsRead (InBraces n) u = IsOpenReference OpenBrace is_open_brace is_close_brace n u

  one_element : (x : A) → IsRead (unit_step byte Between x) (x ∷ [])
  one_element x = go (byte_mark (byte x)) refl
    where
      go : (m : Mark) → byte_mark (byte x) ≡ m → IsRead (next_unit_state Between m) (x ∷ [])
      go Dollar h = (x, refl, h)
      go Escape h = (x, refl, h)
      go OpenParen h = (rw h refl, rw h refl)
      go CloseParen h = (rw h refl, rw h refl)
      go OpenBrace h = (rw h refl, rw h refl)
      go CloseBrace h = (rw h refl, rw h refl)
      go Unmarked h = (rw h refl, rw h refl)

  two_after_dollar : (d x : A) → byte_mark (byte d) ≡ Dollar → IsRead (next_unit_state AfterDollar (byte_mark (byte x))) (d ∷ (x ∷ []))
  two_after_dollar d x e = go (byte_mark (byte x)) refl
    where
      go : (m : Mark) → byte_mark (byte x) ≡ m → IsRead (next_unit_state AfterDollar m) (d ∷ (x ∷ []))
      go OpenParen h = (d, x, [], refl, e, h, one_open byte is_open_paren is_close_paren x (ap is_open_paren h) (ap is_close_paren h))
      go OpenBrace h = (d, x, [], refl, e, h, one_open byte is_open_brace is_close_brace x (ap is_open_brace h) (ap is_close_brace h))
      go Dollar h = (rw (e, h) refl, refl)
      go Escape h = (rw (e, h) refl, refl)
      go CloseParen h = (rw (e, h) refl, refl)
      go CloseBrace h = (rw (e, h) refl, refl)
      go Unmarked h = (rw (e, h) refl, refl)

  two_after_backslash : (b x : A) → byte_mark (byte b) ≡ Escape → begins_unit AfterBackslash (byte_mark (byte x)) ≡ false
      → IsRead (next_unit_state AfterBackslash (byte_mark (byte x))) (b ∷ (x ∷ []))
  two_after_backslash b x e = go (byte_mark (byte x))
    where
      go : (m : Mark) → begins_unit AfterBackslash m ≡ false → IsRead (next_unit_state AfterBackslash m) (b ∷ (x ∷ []))
      go Dollar h = cc
      go Escape h = (rw e refl, refl)
      go OpenParen h = (rw e refl, refl)
      go CloseParen h = (rw e refl, refl)
      go OpenBrace h = (rw e refl, refl)
      go CloseBrace h = (rw e refl, refl)
      go Unmarked h = (rw e refl, refl)

  more_in_parens : (n : ℕ) (x d y : A) (r : List A) → byte_mark (byte d) ≡ Dollar → byte_mark (byte y) ≡ OpenParen
      → mark_count byte is_open_paren (y ∷ r) ≡ mark_count byte is_close_paren (y ∷ r) + suc n → IsRead (next_unit_state (InParens n) (byte_mark (byte x))) (d ∷ (y ∷ (r ++ x ∷ [])))
  unfolding level
  more_in_parens n x d y r e f h = go (step byte InParens is_open_paren is_close_paren parens n (y ∷ r) x h)
    where
      go : ((next_unit_state (InParens n) (byte_mark (byte x)) ≡ Between) × (has_level_parens byte (y ∷ (r ++ x ∷ [])) ≡ true))
          ⊎ ((k : ℕ) × (next_unit_state (InParens n) (byte_mark (byte x)) ≡ InParens k) × (mark_count byte is_open_paren (y ∷ (r ++ x ∷ [])) ≡ mark_count byte is_close_paren (y ∷ (r ++ x ∷ [])) + suc k))
          → IsRead (next_unit_state (InParens n) (byte_mark (byte x))) (d ∷ (y ∷ (r ++ x ∷ [])))
      go (inl k) =
          let u : is_unclosed_unit byte (d ∷ (y ∷ (r ++ x ∷ []))) ≡ false =
          ap (λ m. is_unclosed_by byte m (y ∷ (r ++ x ∷ []))) e ∙ (ap (λ m. is_unclosed_at byte m (y ∷ (r ++ x ∷ []))) f ∙ ap not k.1) in
          let whole : IsRead Between (d ∷ (y ∷ (r ++ x ∷ []))) = (u, refl) in
          subst (λ s. IsRead s (d ∷ (y ∷ (r ++ x ∷ [])))) (sym k.0) whole
      go (inr k) =
          let part : IsRead (InParens k.0) (d ∷ (y ∷ (r ++ x ∷ []))) = (d, y, r ++ x ∷ [], refl, e, f, k.2) in
          subst (λ s. IsRead s (d ∷ (y ∷ (r ++ x ∷ [])))) (sym k.1) part

  more_in_braces : (n : ℕ) (x d y : A) (r : List A) → byte_mark (byte d) ≡ Dollar → byte_mark (byte y) ≡ OpenBrace
      → mark_count byte is_open_brace (y ∷ r) ≡ mark_count byte is_close_brace (y ∷ r) + suc n → IsRead (next_unit_state (InBraces n) (byte_mark (byte x))) (d ∷ (y ∷ (r ++ x ∷ [])))
  unfolding level
  more_in_braces n x d y r e f h = go (step byte InBraces is_open_brace is_close_brace braces n (y ∷ r) x h)
    where
      go : ((next_unit_state (InBraces n) (byte_mark (byte x)) ≡ Between) × (has_level_braces byte (y ∷ (r ++ x ∷ [])) ≡ true))
          ⊎ ((k : ℕ) × (next_unit_state (InBraces n) (byte_mark (byte x)) ≡ InBraces k) × (mark_count byte is_open_brace (y ∷ (r ++ x ∷ [])) ≡ mark_count byte is_close_brace (y ∷ (r ++ x ∷ [])) + suc k))
          → IsRead (next_unit_state (InBraces n) (byte_mark (byte x))) (d ∷ (y ∷ (r ++ x ∷ [])))
      go (inl k) =
          let u : is_unclosed_unit byte (d ∷ (y ∷ (r ++ x ∷ []))) ≡ false =
          ap (λ m. is_unclosed_by byte m (y ∷ (r ++ x ∷ []))) e ∙ (ap (λ m. is_unclosed_at byte m (y ∷ (r ++ x ∷ []))) f ∙ ap not k.1) in
          let whole : IsRead Between (d ∷ (y ∷ (r ++ x ∷ []))) = (u, refl) in
          subst (λ s. IsRead s (d ∷ (y ∷ (r ++ x ∷ [])))) (sym k.0) whole
      go (inr k) =
          let part : IsRead (InBraces k.0) (d ∷ (y ∷ (r ++ x ∷ []))) = (d, y, r ++ x ∷ [], refl, e, f, k.2) in
          subst (λ s. IsRead s (d ∷ (y ∷ (r ++ x ∷ [])))) (sym k.1) part

  -- one element more of a unit
  IsRead-more : (s : UnitState) (u : List A) (x : A) → IsRead s u → begins_unit s (byte_mark (byte x)) ≡ false → IsRead (unit_step byte s x) (u ++ x ∷ [])
  IsRead-more Between u x p h = cc
  IsRead-more AfterDollar u x p h = subst (λ z. IsRead (unit_step byte AfterDollar x) (z ++ x ∷ [])) (sym p.1) (two_after_dollar p.0 x p.2)
  IsRead-more AfterBackslash u x p h = subst (λ z. IsRead (unit_step byte AfterBackslash x) (z ++ x ∷ [])) (sym p.1) (two_after_backslash p.0 x p.2 h)
  IsRead-more (InParens n) u x p h = subst (λ z. IsRead (unit_step byte (InParens n) x) (z ++ x ∷ [])) (sym p.3) (more_in_parens n x p.0 p.1 p.2 p.4 p.5 p.6)
  IsRead-more (InBraces n) u x p h = subst (λ z. IsRead (unit_step byte (InBraces n) x) (z ++ x ∷ [])) (sym p.3) (more_in_braces n x p.0 p.1 p.2 p.4 p.5 p.6)

  -- a part of a unit at the end of the text leaves it open
  IsRead-last : (s : UnitState) (u : List A) → IsRead s u → (is_unclosed_unit byte u || is_lone_backslash byte u) ≡ not (is_between s)
  IsRead-last Between u p = or_from (is_unclosed_unit byte u) (is_lone_backslash byte u) p.0 p.1
  IsRead-last AfterDollar u p = subst (λ z. (is_unclosed_unit byte z || is_lone_backslash byte z) ≡ true) (sym p.1) (rw p.2 refl)
  IsRead-last AfterBackslash u p = subst (λ z. (is_unclosed_unit byte z || is_lone_backslash byte z) ≡ true) (sym p.1) (rw p.2 refl)
  IsRead-last (InParens n) u p =
      let o : has_level_parens byte (p.1 ∷ p.2) ≡ false = unequal_numbers (mark_count byte is_open_paren (p.1 ∷ p.2)) (mark_count byte is_close_paren (p.1 ∷ p.2)) n p.6 in
      subst (λ z. (is_unclosed_unit byte z || is_lone_backslash byte z) ≡ true) (sym p.3)
      (ap (λ m. is_unclosed_by byte m (p.1 ∷ p.2) || false) p.4 ∙ (ap (λ m. is_unclosed_at byte m (p.1 ∷ p.2) || false) p.5 ∙ ap (λ c. not c || false) o))
  IsRead-last (InBraces n) u p =
      let o : has_level_braces byte (p.1 ∷ p.2) ≡ false = unequal_numbers (mark_count byte is_open_brace (p.1 ∷ p.2)) (mark_count byte is_close_brace (p.1 ∷ p.2)) n p.6 in
      subst (λ z. (is_unclosed_unit byte z || is_lone_backslash byte z) ≡ true) (sym p.3)
      (ap (λ m. is_unclosed_by byte m (p.1 ∷ p.2) || false) p.4 ∙ (ap (λ m. is_unclosed_at byte m (p.1 ∷ p.2) || false) p.5 ∙ ap (λ c. not c || false) o))

  -- a unit that another unit follows is no lone dollar and no unclosed reference
  IsRead-followed : (s : UnitState) (u : List A) (m : Mark) → IsRead s u → begins_unit s m ≡ true → is_unclosed_unit byte u ≡ false
  IsRead-followed Between u m p h = p.0
  IsRead-followed AfterBackslash u m p h = subst (λ z. is_unclosed_unit byte z ≡ false) (sym p.1) (rw p.2 refl)
  IsRead-followed AfterDollar u m p h = cc
  IsRead-followed (InParens n) u m p h = cc
  IsRead-followed (InBraces n) u m p h = cc

  leaves_open-state : (s : UnitState) (u t : List A) → IsRead s u
      → leaves_open byte ((u ++ continuation (unit_step byte) (unit_begins byte) s t) ∷ pieces (unit_step byte) (unit_begins byte) s t) ≡ not (is_between (state_after (unit_step byte) s t))
  leaves_open-state s u [] p = subst (λ z. leaves_open byte (z ∷ []) ≡ not (is_between s)) (sym (append-nil u)) (IsRead-last s u p)
  leaves_open-state s u (x ∷ t) p =
      go (unit_begins byte s x) refl
      (λ k. leaves_open-state (unit_step byte s x) (x ∷ []) t k) (λ k. leaves_open-state (unit_step byte s x) (u ++ x ∷ []) t k)
    where
      go : (b : Bool) → unit_begins byte s x ≡ b
          → (IsRead (unit_step byte s x) (x ∷ []) → leaves_open byte ((x ∷ continuation (unit_step byte) (unit_begins byte) (unit_step byte s x) t) ∷ pieces (unit_step byte) (unit_begins byte) (unit_step byte s x) t) ≡ not (is_between (state_after (unit_step byte) (unit_step byte s x) t)))
          → (IsRead (unit_step byte s x) (u ++ x ∷ []) → leaves_open byte (((u ++ x ∷ []) ++ continuation (unit_step byte) (unit_begins byte) (unit_step byte s x) t) ∷ pieces (unit_step byte) (unit_begins byte) (unit_step byte s x) t) ≡ not (is_between (state_after (unit_step byte) (unit_step byte s x) t)))
          → leaves_open byte ((u ++ cond b [] (x ∷ continuation (unit_step byte) (unit_begins byte) (unit_step byte s x) t)) ∷ cond b ((x ∷ continuation (unit_step byte) (unit_begins byte) (unit_step byte s x) t) ∷ pieces (unit_step byte) (unit_begins byte) (unit_step byte s x) t) (pieces (unit_step byte) (unit_begins byte) (unit_step byte s x) t))
          ≡ not (is_between (state_after (unit_step byte) (unit_step byte s x) t))
      go true e new more =
          let closed : is_unclosed_unit byte (u ++ []) ≡ false = ap (is_unclosed_unit byte) (append-nil u) ∙ IsRead-followed s u (byte_mark (byte x)) p e in
          let read : IsRead (unit_step byte s x) (x ∷ []) = subst (λ z. IsRead z (x ∷ [])) (sym (step-again byte s x e)) (one_element x) in
          ap (λ z. z || leaves_open byte ((x ∷ continuation (unit_step byte) (unit_begins byte) (unit_step byte s x) t) ∷ pieces (unit_step byte) (unit_begins byte) (unit_step byte s x) t)) closed ∙ new read
      go false e new more =
          ap (λ z. leaves_open byte (z ∷ pieces (unit_step byte) (unit_begins byte) (unit_step byte s x) t)) (sym (append_assoc u (x ∷ []) (continuation (unit_step byte) (unit_begins byte) (unit_step byte s x) t)))
          ∙ more (IsRead-more s u x p e)

  -- a text is closed if none of its units is a lone dollar or an unclosed reference, and the last unit is not a lone backslash
  pub is_closed-leaves_open : (t : List A) → is_closed byte t ≡ not (leaves_open byte (units byte t))
  is_closed-leaves_open [] = refl
  is_closed-leaves_open (x ∷ t) =
      sym (not-not (is_closed byte (x ∷ t))) ∙ ap not (sym (leaves_open-state (unit_step byte Between x) (x ∷ []) t (one_element x)))
