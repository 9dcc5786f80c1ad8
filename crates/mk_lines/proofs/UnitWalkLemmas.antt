-- Lemmas of units and words one after the other.
use Rattle.std.proofs.Common.{◌≡◌, ◌≢◌, refl, sym, ap, ◌∙◌, subst, ℕ, suc, zero, ◌+◌, ◌-◌, ◌≤◌, ◌<◌, List, [], ◌∷◌, ◌++◌, Bool, true, false, not, cond, length, take, drop, get_or, length-append, length-drop, arith, Bor}
use Rattle.std.specs.Prelude.{◌==◌, Option, Some, None, MatchOption}
use Rattle.std.specs.Option.{UnwrapsOrElse}
use Rattle.std.proofs.lemmas.Bool.Decides.{Decides-eqb}
use Rattle.std.proofs.Math.Seq.{take-length, take-append_seam, drop-append_seam}
use Rattle.std.proofs.lemmas.Bool.{eqb-true}
use Rattle.mk_lines.specs.Lists.{concat, leading, after_leading, FirstFails}
use Rattle.mk_lines.proofs.on_lists.ListLemmas.{leading-after_leading, after_leading-first_fails, concat-append}
use Rattle.mk_lines.specs.Cut.{state_after, continuation, pieces}
use Rattle.mk_lines.proofs.on_lists.CutLemmas.{continuation-start}
use Rattle.mk_lines.specs.Bytes.{byte_kind, is_blank_kind, ByteKind, is_blank_byte}
use Rattle.mk_lines.specs.Bytes.ByteKind.{LineFeed, CarriageReturn, Backslash, Blank, Ordinary}
use Rattle.mk_lines.proofs.on_lists.ByteLemmas.{blank-mark}
use Rattle.mk_lines.specs.Units.{Mark, byte_mark, UnitState, next_unit_state, begins_unit, is_between, units, unit_step, unit_begins, is_closed}
use Rattle.mk_lines.specs.Units.Mark.{Dollar, Escape, OpenParen, CloseParen, OpenBrace, CloseBrace, Unmarked}
use Rattle.mk_lines.specs.Units.UnitState.{Between, AfterDollar, InParens, InBraces}
use Rattle.mk_lines.proofs.on_units.UnitLemmas.{begins-always, concat-units, units-last}
use Rattle.mk_lines.specs.FirstUnit.{first_unit, after_first_unit}
use Rattle.mk_lines.proofs.on_units.FirstUnitLemmas.{units-first_unit}
use Rattle.mk_lines.specs.Words.{Token, Gap, Word, tokens, token_words, words, before_tokens, is_gap}
use Rattle.mk_lines.specs.Ranges.{piece_ranges, word_token_ranges}
use Rattle.mk_lines.specs.UnitWalk.{after_close, after_word, units_left, words_left}
use Rattle.mk_lines.specs.declared.split.Span.{Span}

-- ---- bytes and marks

other_byte : (b n : ℕ) → b ≢ n → (b == n) ≡ false
other_byte b n h = go (b == n) refl
  where
    go : (c : Bool) → (b == n) ≡ c → c ≡ false
    go true e = absurd (h (eqb-true b n e))
    go false e = refl

choice : (P : Mark → Type 0) (b n : ℕ) (m l : Mark) → (b ≡ n → P m) → (b ≢ n → P l) → P (cond (b == n) m l)
choice P b n m l h k = go (b == n) refl
  where
    go : (c : Bool) → (b == n) ≡ c → P (cond c m l)
    go true e = h (eqb-true b n e)
    go false e = k (λ f. (cc ((Decides-eqb b n).1 f, e)))

-- what holds for the mark of each of the six bytes, and for no mark, holds for the mark of any byte
mark_cases : (P : Mark → Type 0) (b : ℕ) → (b ≡ 36 → P Dollar) → (b ≡ 92 → P Escape) → (b ≡ 40 → P OpenParen) → (b ≡ 41 → P CloseParen)
    → (b ≡ 123 → P OpenBrace) → (b ≡ 125 → P CloseBrace) → P Unmarked → P (byte_mark b)
mark_cases P b d e p q r s u =
    choice P b 36 Dollar _ d
    (λ _. choice P b 92 Escape _ e
    (λ _. choice P b 40 OpenParen _ p
    (λ _. choice P b 41 CloseParen _ q
    (λ _. choice P b 123 OpenBrace _ r
    (λ _. choice P b 125 CloseBrace Unmarked s (λ _. u))))))

-- ---- references

-- what follows the piece that a text stands in
abbrev after_piece : UnitState → List ℕ → List ℕ
after_piece s t = drop (length (continuation (unit_step (λ b. b)) (unit_begins (λ b. b)) s t)) t

abbrev end_state : UnitState → List ℕ → UnitState
end_state s t = state_after (unit_step (λ b. b)) s t

-- between two units nothing follows of a piece
after_piece-between : (t : List ℕ) → after_piece Between t ≡ t
after_piece-between t = ap (λ l. drop (length l) t) (continuation-start (unit_step (λ b. b)) (unit_begins (λ b. b)) Between (begins-always (λ b. b)) t)

-- what the machine does inside a reference, by the bytes of its two brackets
record IsReferenceOf (inside : ℕ → UnitState) (opening closing : ℕ) : Type 0 where
  open_inside : (n : ℕ) → is_between (inside n) ≡ false
  goes_on : (n : ℕ) (m : Mark) → begins_unit (inside n) m ≡ false
  at_open : (n b : ℕ) → b ≡ opening → next_unit_state (inside n) (byte_mark b) ≡ inside (suc n)
  at_last : (b : ℕ) → b ≡ closing → next_unit_state (inside zero) (byte_mark b) ≡ Between
  at_close : (n b : ℕ) → b ≡ closing → next_unit_state (inside (suc n)) (byte_mark b) ≡ inside n
  at_other : (n b : ℕ) → b ≢ opening → b ≢ closing → next_unit_state (inside n) (byte_mark b) ≡ inside n

parens : IsReferenceOf InParens 40 41
parens = record {
  open_inside = λ n. refl;
  goes_on = λ n m. refl;
  at_open = at_open;
  at_last = λ b h. rw h refl;
  at_close = λ n b h. rw h refl;
  at_other = at_other;
}
  where
    at_open : (n b : ℕ) → b ≡ 40 → next_unit_state (InParens n) (byte_mark b) ≡ InParens (suc n)
    at_open zero b h = rw h refl
    at_open (suc n) b h = rw h refl

    at_other : (n b : ℕ) → b ≢ 40 → b ≢ 41 → next_unit_state (InParens n) (byte_mark b) ≡ InParens n
    at_other zero b h k = mark_cases (λ m. next_unit_state (InParens zero) m ≡ InParens zero) b (λ _. refl) (λ _. refl) (λ e. absurd (h e)) (λ e. absurd (k e)) (λ _. refl) (λ _. refl) refl
    at_other (suc n) b h k = mark_cases (λ m. next_unit_state (InParens (suc n)) m ≡ InParens (suc n)) b (λ _. refl) (λ _. refl) (λ e. absurd (h e)) (λ e. absurd (k e)) (λ _. refl) (λ _. refl) refl

braces : IsReferenceOf InBraces 123 125
braces = record {
  open_inside = λ n. refl;
  goes_on = λ n m. refl;
  at_open = at_open;
  at_last = λ b h. rw h refl;
  at_close = λ n b h. rw h refl;
  at_other = at_other;
}
  where
    at_open : (n b : ℕ) → b ≡ 123 → next_unit_state (InBraces n) (byte_mark b) ≡ InBraces (suc n)
    at_open zero b h = rw h refl
    at_open (suc n) b h = rw h refl

    at_other : (n b : ℕ) → b ≢ 123 → b ≢ 125 → next_unit_state (InBraces n) (byte_mark b) ≡ InBraces n
    at_other zero b h k = mark_cases (λ m. next_unit_state (InBraces zero) m ≡ InBraces zero) b (λ _. refl) (λ _. refl) (λ _. refl) (λ _. refl) (λ e. absurd (h e)) (λ e. absurd (k e)) refl
    at_other (suc n) b h k = mark_cases (λ m. next_unit_state (InBraces (suc n)) m ≡ InBraces (suc n)) b (λ _. refl) (λ _. refl) (λ _. refl) (λ _. refl) (λ e. absurd (h e)) (λ e. absurd (k e)) refl

-- what an answer about the text after the closing bracket says about the machine
abbrev Agrees : UnitState → List ℕ → Option (List ℕ) → Type 0
Agrees s t None = (after_piece s t ≡ []) × (is_between (end_state s t) ≡ false)
Agrees s t (Some r) = (after_piece s t ≡ r) × (end_state s t ≡ end_state Between r)

module _ (inside : ℕ → UnitState) (opening closing : ℕ) (laws : IsReferenceOf inside opening closing) where
  -- one byte more of a reference, after which the machine is in the state `s`
  one_more : (n b : ℕ) (t : List ℕ) (s : UnitState) (r : Option (List ℕ)) → next_unit_state (inside n) (byte_mark b) ≡ s → Agrees s t r → Agrees (inside n) (b ∷ t) r
  one_more n b t s None e h = (rw (laws.goes_on n (byte_mark b), e) (h.0), rw e (h.1))
  one_more n b t s (Some r) e h = (rw (laws.goes_on n (byte_mark b), e) (h.0), rw e (h.1))

  after_close-agrees : (n : ℕ) (t : List ℕ) → Agrees (inside n) t (after_close opening closing n t)
  after_close-agrees n [] = (refl, laws.open_inside n)
  after_close-agrees n (b ∷ t) =
      by_tests n (b == opening) refl (b == closing) refl (λ k. after_close-agrees k t)
    where
      by_tests : (n : ℕ) (c : Bool) → (b == opening) ≡ c → (d : Bool) → (b == closing) ≡ d
          → ((k : ℕ) → Agrees (inside k) t (after_close opening closing k t))
          → Agrees (inside n) (b ∷ t)
          (cond c (after_close opening closing (n + 1) t)
          (cond d (cond (n == 0) (Some t) (after_close opening closing (n - 1) t)) (after_close opening closing n t)))
      by_tests n true e d f ih =
          let g : n + 1 ≡ suc n = omega arith in
          one_more n b t (inside (suc n)) _ (laws.at_open n b (eqb-true b opening e)) (rw g (ih (suc n)))
      by_tests zero false e true f ih = one_more zero b t Between (Some t) (laws.at_last b (eqb-true b closing f)) (after_piece-between t, refl)
      by_tests (suc n) false e true f ih =
          let g : suc n - 1 ≡ n = omega arith in
          let z : (suc n == 0) ≡ false = other_byte (suc n) 0 (λ h. absurd (omega arith)) in
          one_more (suc n) b t (inside n) _ (laws.at_close n b (eqb-true b closing f)) (rw (z, g) (ih n))
      by_tests n false e false f ih = one_more n b t (inside n) _ (laws.at_other n b (λ h. (cc ((Decides-eqb b opening).1 h, e))) (λ h. (cc ((Decides-eqb b closing).1 h, f)))) (ih n)

-- ---- the unit at the front of a text

-- what an answer about the text after the first unit says
abbrev AfterUnit : List ℕ → Option (List ℕ) → Type 0
AfterUnit t None = (after_first_unit (λ b. b) t ≡ []) × (is_closed (λ b. b) t ≡ false)
AfterUnit t (Some r) = (r ≡ after_first_unit (λ b. b) t) × (is_closed (λ b. b) t ≡ is_closed (λ b. b) r)

-- the first unit is a byte and what continues the piece of it
first_unit-continuation : (x : ℕ) (t : List ℕ) → first_unit (λ b. b) (x ∷ t) ≡ x ∷ continuation (unit_step (λ b. b)) (unit_begins (λ b. b)) (unit_step (λ b. b) Between x) t
first_unit-continuation x t = cc (units-first_unit (λ b. b) x t)

after_first_unit-piece : (x : ℕ) (t : List ℕ) → after_first_unit (λ b. b) (x ∷ t) ≡ after_piece (unit_step (λ b. b) Between x) t
after_first_unit-piece x t = ap (λ u. drop (length u) (x ∷ t)) (first_unit-continuation x t)

after_reference : (b : ℕ) (s : UnitState) (t : List ℕ) (r : Option (List ℕ)) → next_unit_state AfterDollar (byte_mark b) ≡ s → Agrees s t r → AfterUnit (36 ∷ b ∷ t) r
after_reference b s t None e h = (after_first_unit-piece 36 (b ∷ t) ∙ rw e (h.0), rw e (h.1))
after_reference b s t (Some r) e h = (sym (after_first_unit-piece 36 (b ∷ t) ∙ rw e (h.0)), rw e (ap is_between h.1))

-- a reference in parentheses, and one in braces
AfterUnit-parens : (t : List ℕ) → AfterUnit (36 ∷ 40 ∷ t) (after_close 40 41 0 t)
AfterUnit-parens t = after_reference 40 (InParens 0) t (after_close 40 41 0 t) refl (after_close-agrees InParens 40 41 parens 0 t)

AfterUnit-braces : (t : List ℕ) → AfterUnit (36 ∷ 123 ∷ t) (after_close 123 125 0 t)
AfterUnit-braces t = after_reference 123 (InBraces 0) t (after_close 123 125 0 t) refl (after_close-agrees InBraces 123 125 braces 0 t)

-- ---- the ranges of the units of the rest

-- the first unit and what follows it are the text
first_unit-after : (x : ℕ) (t : List ℕ) → first_unit (λ b. b) (x ∷ t) ++ after_first_unit (λ b. b) (x ∷ t) ≡ x ∷ t
first_unit-after x t =
    ap (λ r. first_unit (λ b. b) (x ∷ t) ++ r) (sym (concat-units (λ b. b) (after_first_unit (λ b. b) (x ∷ t))))
    ∙ (ap concat (sym (units-first_unit (λ b. b) x t)) ∙ concat-units (λ b. b) (x ∷ t))

-- what follows the first unit is shorter than the text
after_first_unit-shorter : (x : ℕ) (t : List ℕ) → length (after_first_unit (λ b. b) (x ∷ t)) < length (x ∷ t)
after_first_unit-shorter x t =
    let n : length (first_unit (λ b. b) (x ∷ t)) + length (after_first_unit (λ b. b) (x ∷ t)) ≡ length (x ∷ t) =
    sym (length-append (first_unit (λ b. b) (x ∷ t)) (after_first_unit (λ b. b) (x ∷ t))) ∙ ap length (first_unit-after x t) in
    let m : length (first_unit (λ b. b) (x ∷ t)) ≡ suc (length (continuation (unit_step (λ b. b)) (unit_begins (λ b. b)) (unit_step (λ b. b) Between x) t)) =
    ap length (first_unit-continuation x t) in
    omega (arith, n, m)

end_of_first : (n a b c : ℕ) → a + b ≡ c → c ≤ n → n - c + a ≡ n - b
end_of_first n a b c e h = omega arith

-- the first unit of the rest, and the other units
units_left-first : (n x : ℕ) (t r : List ℕ) → r ≡ after_first_unit (λ b. b) (x ∷ t) → length (x ∷ t) ≤ n
    → units_left n (x ∷ t) ≡ record { start = n - length (x ∷ t); end = n - length r } ∷ units_left n r
units_left-first n x t r e h =
    let u = first_unit (λ b. b) (x ∷ t) in
    let m : n - length (x ∷ t) + length u ≡ n - length r =
    end_of_first n (length u) (length r) (length (x ∷ t)) (ap (λ z. length u + length z) e ∙ (sym (length-append u (after_first_unit (λ b. b) (x ∷ t))) ∙ ap length (first_unit-after x t))) h in
    ap (piece_ranges (n - length (x ∷ t))) (units-first_unit (λ b. b) x t ∙ ap (λ z. u ∷ units (λ b. b) z) (sym e))
    ∙ ap (λ k. let s : Span = record { start = n - length (x ∷ t); end = k } in s ∷ piece_ranges k (units (λ b. b) r)) m

-- ---- words

-- the word at the front of units, of which the first is no gap
tokens-leading : (u : List ℕ) (us : List (List ℕ)) → is_gap (λ b. b) u ≡ false → tokens (λ b. b) (u ∷ us) ≡ Word (u ∷ leading (λ v. not (is_gap (λ b. b) v)) us) ∷ tokens (λ b. b) (after_leading (λ v. not (is_gap (λ b. b) v)) us)
tokens-leading u [] h = ap (λ g. before_tokens g u []) h
tokens-leading u (v ∷ us) h = ap (λ g. before_tokens g u (tokens (λ b. b) (v ∷ us))) h ∙ go (is_gap (λ b. b) v) refl (tokens-leading v us)
  where
    go : (g : Bool) → is_gap (λ b. b) v ≡ g
        → (is_gap (λ b. b) v ≡ false → tokens (λ b. b) (v ∷ us) ≡ Word (v ∷ leading (λ w. not (is_gap (λ b. b) w)) us) ∷ tokens (λ b. b) (after_leading (λ w. not (is_gap (λ b. b) w)) us))
        → before_tokens false u (tokens (λ b. b) (v ∷ us))
        ≡ Word (u ∷ cond (not g) (v ∷ leading (λ w. not (is_gap (λ b. b) w)) us) []) ∷ tokens (λ b. b) (cond (not g) (after_leading (λ w. not (is_gap (λ b. b) w)) us) (v ∷ us))
    go true e ih = rw e refl
    go false e ih = ap (before_tokens false u) (ih e)

is_blank-mark : (x : ℕ) → is_blank_byte x ≡ true → byte_mark x ≡ Unmarked
is_blank-mark x h = go (byte_kind x) refl h
  where
    go : (b : ByteKind) → byte_kind x ≡ b → is_blank_kind b ≡ true → byte_mark x ≡ Unmarked
    go Blank e f = blank-mark x e
    go LineFeed e f = cc
    go CarriageReturn e f = cc
    go Backslash e f = cc
    go Ordinary e f = cc

-- the first unit of a text that begins with no blank is no gap
first_unit-not_gap : (x : ℕ) (t : List ℕ) → is_blank_byte x ≡ false → is_gap (λ b. b) (first_unit (λ b. b) (x ∷ t)) ≡ false
first_unit-not_gap x t h = ap (is_gap (λ b. b)) (first_unit-continuation x t) ∙ go (continuation (unit_step (λ b. b)) (unit_begins (λ b. b)) (unit_step (λ b. b) Between x) t)
  where
    go : (u : List ℕ) → is_gap (λ b. b) (x ∷ u) ≡ false
    go [] = h
    go (y ∷ u) = refl

-- the units of a text that begins with a blank
units-blank : (x : ℕ) (t : List ℕ) → is_blank_byte x ≡ true → units (λ b. b) (x ∷ t) ≡ (x ∷ []) ∷ units (λ b. b) t
units-blank x t h =
    let e : unit_step (λ b. b) Between x ≡ Between = ap (next_unit_state Between) (is_blank-mark x h) in
    rw (e, continuation-start (unit_step (λ b. b)) (unit_begins (λ b. b)) Between (begins-always (λ b. b)) t) refl

-- what follows a word, over one more unit of it
after_word-step : (x : ℕ) (t r : List ℕ) → is_blank_byte x ≡ false → r ≡ after_first_unit (λ b. b) (x ∷ t) → after_word (x ∷ t) ≡ after_word r
after_word-step x t r h e =
    ap (λ us. concat (after_leading (λ u. not (is_gap (λ b. b) u)) us)) (units-first_unit (λ b. b) x t ∙ ap (λ z. first_unit (λ b. b) (x ∷ t) ∷ units (λ b. b) z) (sym e))
    ∙ ap (λ g. concat (cond (not g) (after_leading (λ u. not (is_gap (λ b. b) u)) (units (λ b. b) r)) (first_unit (λ b. b) (x ∷ t) ∷ units (λ b. b) r))) (first_unit-not_gap x t h)

-- what follows a word that a blank ends
after_word-blank : (x : ℕ) (t : List ℕ) → is_blank_byte x ≡ true → after_word (x ∷ t) ≡ x ∷ t
after_word-blank x t h =
    ap (λ us. concat (after_leading (λ u. not (is_gap (λ b. b) u)) us)) (units-blank x t h)
    ∙ (ap (λ g. concat (cond (not g) (after_leading (λ u. not (is_gap (λ b. b) u)) (units (λ b. b) t)) ((x ∷ []) ∷ units (λ b. b) t))) h
    ∙ ap (λ r. x ∷ r) (concat-units (λ b. b) t))

-- the word at the front of a text and what follows it
after_word-split : (t : List ℕ) → concat (leading (λ u. not (is_gap (λ b. b) u)) (units (λ b. b) t)) ++ after_word t ≡ t
after_word-split t =
    let p = λ (u : List ℕ). not (is_gap (λ b. b) u) in
    sym (concat-append (leading p (units (λ b. b) t)) (after_leading p (units (λ b. b) t)))
    ∙ (ap concat (leading-after_leading p (units (λ b. b) t)) ∙ concat-units (λ b. b) t)

units-after_word : (t : List ℕ) → units (λ b. b) (after_word t) ≡ after_leading (λ u. not (is_gap (λ b. b) u)) (units (λ b. b) t)
units-after_word t =
    let p = λ (u : List ℕ). not (is_gap (λ b. b) u) in
    units-last (λ b. b) t (leading p (units (λ b. b) t)) (after_leading p (units (λ b. b) t)) (sym (leading-after_leading p (units (λ b. b) t)))

-- what follows a word is no longer than the text
after_word-length : (t : List ℕ) → length (after_word t) ≤ length t
after_word-length t =
    let n : length (concat (leading (λ u. not (is_gap (λ b. b) u)) (units (λ b. b) t))) + length (after_word t) ≡ length t =
    sym (length-append (concat (leading (λ u. not (is_gap (λ b. b) u)) (units (λ b. b) t))) (after_word t)) ∙ ap length (after_word-split t) in
    omega (arith, n)

tokens-word_first : (x : ℕ) (t : List ℕ) → is_blank_byte x ≡ false
    → tokens (λ b. b) (units (λ b. b) (x ∷ t)) ≡ Word (leading (λ u. not (is_gap (λ b. b) u)) (units (λ b. b) (x ∷ t))) ∷ tokens (λ b. b) (units (λ b. b) (after_word (x ∷ t)))
tokens-word_first x t h =
    ap (tokens (λ b. b)) (units-first_unit (λ b. b) x t)
    ∙ (tokens-leading (first_unit (λ b. b) (x ∷ t)) (units (λ b. b) (after_first_unit (λ b. b) (x ∷ t))) (first_unit-not_gap x t h)
    ∙ (ap (λ l. Word l ∷ tokens (λ b. b) (after_leading (λ u. not (is_gap (λ b. b) u)) (units (λ b. b) (after_first_unit (λ b. b) (x ∷ t))))) (sym leading-of)
    ∙ ap (λ l. Word (leading (λ u. not (is_gap (λ b. b) u)) (units (λ b. b) (x ∷ t))) ∷ tokens (λ b. b) l) (sym (units-after_word (x ∷ t) ∙ after-of))))
  where
    leading-of : leading (λ u. not (is_gap (λ b. b) u)) (units (λ b. b) (x ∷ t)) ≡ first_unit (λ b. b) (x ∷ t) ∷ leading (λ u. not (is_gap (λ b. b) u)) (units (λ b. b) (after_first_unit (λ b. b) (x ∷ t)))
    leading-of =
        ap (leading (λ u. not (is_gap (λ b. b) u))) (units-first_unit (λ b. b) x t)
        ∙ ap (λ g. cond (not g) (first_unit (λ b. b) (x ∷ t) ∷ leading (λ u. not (is_gap (λ b. b) u)) (units (λ b. b) (after_first_unit (λ b. b) (x ∷ t)))) []) (first_unit-not_gap x t h)

    after-of : after_leading (λ u. not (is_gap (λ b. b) u)) (units (λ b. b) (x ∷ t)) ≡ after_leading (λ u. not (is_gap (λ b. b) u)) (units (λ b. b) (after_first_unit (λ b. b) (x ∷ t)))
    after-of =
        ap (after_leading (λ u. not (is_gap (λ b. b) u))) (units-first_unit (λ b. b) x t)
        ∙ ap (λ g. cond (not g) (after_leading (λ u. not (is_gap (λ b. b) u)) (units (λ b. b) (after_first_unit (λ b. b) (x ∷ t)))) (first_unit (λ b. b) (x ∷ t) ∷ units (λ b. b) (after_first_unit (λ b. b) (x ∷ t)))) (first_unit-not_gap x t h)

-- the first word of the rest, and the other words
words_left-first : (n x : ℕ) (t : List ℕ) → is_blank_byte x ≡ false → length (x ∷ t) ≤ n
    → words_left n (x ∷ t) ≡ record { start = n - length (x ∷ t); end = n - length (after_word (x ∷ t)) } ∷ words_left n (after_word (x ∷ t))
words_left-first n x t h k =
    let w = leading (λ u. not (is_gap (λ b. b) u)) (units (λ b. b) (x ∷ t)) in
    let m : n - length (x ∷ t) + length (concat w) ≡ n - length (after_word (x ∷ t)) =
    end_of_first n (length (concat w)) (length (after_word (x ∷ t))) (length (x ∷ t)) (sym (length-append (concat w) (after_word (x ∷ t))) ∙ ap length (after_word-split (x ∷ t))) k in
    ap (word_token_ranges (n - length (x ∷ t))) (tokens-word_first x t h)
    ∙ ap (λ e. let s : Span = record { start = n - length (x ∷ t); end = e } in s ∷ word_token_ranges e (tokens (λ b. b) (units (λ b. b) (after_word (x ∷ t))))) m

-- blanks at the front of the rest change nothing
words_left-blank : (n x : ℕ) (t : List ℕ) → is_blank_byte x ≡ true → length (x ∷ t) ≤ n → words_left n (x ∷ t) ≡ words_left n t
words_left-blank n x t h k =
    let m : n - length (x ∷ t) + 1 ≡ n - length t = omega arith in
    ap (λ us. word_token_ranges (n - length (x ∷ t)) (tokens (λ b. b) us)) (units-blank x t h)
    ∙ (ap (λ g. word_token_ranges (n - length (x ∷ t)) (before_tokens g (x ∷ []) (tokens (λ b. b) (units (λ b. b) t)))) h
    ∙ ap (λ e. word_token_ranges e (tokens (λ b. b) (units (λ b. b) t))) m)

pub words_left-blanks : (n : ℕ) (t : List ℕ) → length t ≤ n → words_left n t ≡ words_left n (after_leading is_blank_byte t)
words_left-blanks n [] h = refl
words_left-blanks n (x ∷ t) h = go (is_blank_byte x) refl (words_left-blanks n t (omega arith))
  where
    go : (c : Bool) → is_blank_byte x ≡ c → words_left n t ≡ words_left n (after_leading is_blank_byte t)
        → words_left n (x ∷ t) ≡ words_left n (cond c (after_leading is_blank_byte t) (x ∷ t))
    go true e ih = words_left-blank n x t e h ∙ ih
    go false e ih = refl

-- ---- how many

pieces-count : {A S : Type 0} (step : S → A → S) (begins : S → A → Bool) (s : S) (t : List A) → length (pieces step begins s t) ≤ length t
pieces-count step begins s [] = omega arith
pieces-count step begins s (x ∷ t) = go (begins s x) (pieces-count step begins (step s x) t)
  where
    go : (c : Bool) → length (pieces step begins (step s x) t) ≤ length t
        → length (cond c ((x ∷ continuation step begins (step s x) t) ∷ pieces step begins (step s x) t) (pieces step begins (step s x) t)) ≤ length (x ∷ t)
    go true h = omega arith
    go false h = omega arith

piece_ranges-count : (n : ℕ) (us : List (List ℕ)) → length (piece_ranges n us) ≡ length us
piece_ranges-count n [] = refl
piece_ranges-count n (u ∷ us) = ap suc (piece_ranges-count (n + length u) us)

-- the rest has no more units than the text has bytes
pub units_left-count : (n : ℕ) (t : List ℕ) → length (units_left n t) ≤ length t
units_left-count n t =
    omega (arith, piece_ranges-count (n - length t) (units (λ b. b) t), pieces-count (unit_step (λ b. b)) (unit_begins (λ b. b)) Between t)

word_token_ranges-count : (n : ℕ) (ts : List (Token ℕ)) → length (word_token_ranges n ts) ≤ length ts
word_token_ranges-count n [] = omega arith
word_token_ranges-count n (Gap u ∷ ts) = omega (arith, word_token_ranges-count (n + length u) ts)
word_token_ranges-count n (Word w ∷ ts) = omega (arith, word_token_ranges-count (n + length (concat w)) ts)

before_tokens-count : (g : Bool) (u : List ℕ) (ts : List (Token ℕ)) → length (before_tokens g u ts) ≤ suc (length ts)
before_tokens-count true u ts = omega arith
before_tokens-count false u [] = omega arith
before_tokens-count false u (Gap v ∷ ts) = omega arith
before_tokens-count false u (Word w ∷ ts) = omega arith

tokens-count : (us : List (List ℕ)) → length (tokens (λ b. b) us) ≤ length us
tokens-count [] = omega arith
tokens-count (u ∷ us) = omega (arith, before_tokens-count (is_gap (λ b. b) u) u (tokens (λ b. b) us), tokens-count us)

-- the rest has no more words than the text has bytes
pub words_left-count : (n : ℕ) (t : List ℕ) → length (words_left n t) ≤ length t
words_left-count n t =
    omega (
      arith,
      word_token_ranges-count (n - length t) (tokens (λ b. b) (units (λ b. b) t)),
      tokens-count (units (λ b. b) t),
      pieces-count (unit_step (λ b. b)) (unit_begins (λ b. b)) Between t,
    )

-- ---- the answers of the code

-- the first two of at least two elements, and the others
two_first : (s : List ℕ) (a b : ℕ) → 2 ≤ length s → get_or s 0 0 ≡ a → get_or s 1 0 ≡ b → s ≡ a ∷ b ∷ take (length s - 2) (drop 2 s)
two_first [] a b h e f = absurd (omega arith)
two_first (x ∷ []) a b h e f = absurd (omega arith)
two_first (x ∷ y ∷ t) a b h e f =
    let n : suc (suc (length t)) - 2 ≡ length t = omega arith in
    rw (n, take-length t, e, f) refl

-- what the answer about the text after the closing bracket says about the first unit
abbrev IsAfterUnit : List ℕ → Option (Bor (List ℕ)) → Type 0
IsAfterUnit s r =
    MatchOption r (after_first_unit (λ b. b) s ≡ []) (λ q. q.now ≡ after_first_unit (λ b. b) s)
    × MatchOption r (is_closed (λ b. b) s ≡ false) (λ q. is_closed (λ b. b) s ≡ is_closed (λ b. b) q.now)

answered : (s : List ℕ) (o : Option (List ℕ)) (r : Option (Bor (List ℕ))) → AfterUnit s o → MatchOption r (o ≡ None) (λ q. o ≡ Some q.now) → IsAfterUnit s r
answered s o None h e = rw e at h
answered s o (Some q) h e = rw e at h

pub IsAfterUnit-parens : (s : List ℕ) (r : Option (Bor (List ℕ))) → 2 ≤ length s → get_or s 0 0 ≡ 36 → get_or s 1 0 ≡ 40
    → MatchOption r (after_close 40 41 0 (take (length s - 2) (drop 2 s)) ≡ None) (λ q. after_close 40 41 0 (take (length s - 2) (drop 2 s)) ≡ Some q.now) → IsAfterUnit s r
IsAfterUnit-parens s r h e f k =
    let t = take (length s - 2) (drop 2 s) in
    answered s (after_close 40 41 0 t) r (subst (λ z. AfterUnit z (after_close 40 41 0 t)) (sym (two_first s 36 40 h e f)) (AfterUnit-parens t)) k

pub IsAfterUnit-braces : (s : List ℕ) (r : Option (Bor (List ℕ))) → 2 ≤ length s → get_or s 0 0 ≡ 36 → get_or s 1 0 ≡ 123
    → MatchOption r (after_close 123 125 0 (take (length s - 2) (drop 2 s)) ≡ None) (λ q. after_close 123 125 0 (take (length s - 2) (drop 2 s)) ≡ Some q.now) → IsAfterUnit s r
IsAfterUnit-braces s r h e f k =
    let t = take (length s - 2) (drop 2 s) in
    answered s (after_close 123 125 0 t) r (subst (λ z. AfterUnit z (after_close 123 125 0 t)) (sym (two_first s 36 123 h e f)) (AfterUnit-braces t)) k

-- what follows the first unit; nothing if the unit leaves the text open
pub after_unit-or_nothing : (s : List ℕ) (r : Option (Bor (List ℕ))) (q : Bor (List ℕ)) → MatchOption r (after_first_unit (λ b. b) s ≡ []) (λ z. z.now ≡ after_first_unit (λ b. b) s)
    → UnwrapsOrElse r (λ z. z.now ≡ []) q → q.now ≡ after_first_unit (λ b. b) s
after_unit-or_nothing s None q h k = k ∙ sym h
after_unit-or_nothing s (Some z) q h k = ap (λ w. w.now) k ∙ h

pub units_left-next : (n : ℕ) (s r : List ℕ) → (length s == 0) ≡ false → r ≡ after_first_unit (λ b. b) s → length s ≤ n
    → units_left n s ≡ record { start = n - length s; end = n - length r } ∷ units_left n r
units_left-next n [] r h e k = cc
units_left-next n (x ∷ t) r h e k = units_left-first n x t r e k

-- what follows the word of a text of which one more unit is read
pub after_word-over_unit : (s r : List ℕ) → 1 ≤ length s → is_blank_byte (get_or s 0 0) ≡ false → r ≡ after_first_unit (λ b. b) s → after_word s ≡ after_word r
after_word-over_unit [] r h k e = absurd (omega arith)
after_word-over_unit (x ∷ t) r h k e = after_word-step x t r k e

pub after_word-at_blank : (s : List ℕ) → 1 ≤ length s → is_blank_byte (get_or s 0 0) ≡ true → after_word s ≡ s
after_word-at_blank [] h k = absurd (omega arith)
after_word-at_blank (x ∷ t) h k = after_word-blank x t k

-- the words of the rest, if it begins with blanks that something follows
pub words_left-next : (n : ℕ) (s w r : List ℕ) → w ≡ after_leading is_blank_byte s → (length w == 0) ≡ false → r ≡ after_word w → length s ≤ n → length w ≤ n
    → words_left n s ≡ record { start = n - length w; end = n - length r } ∷ words_left n r
words_left-next n s [] r e h f k l = cc
words_left-next n s (x ∷ t) r e h f k l =
    words_left-blanks n s k
    ∙ (ap (words_left n) (sym e)
    ∙ (words_left-first n x t (subst (FirstFails is_blank_byte) (sym e) (after_leading-first_fails is_blank_byte s)) l
    ∙ ap (λ z. let p : Span = record { start = n - length (x ∷ t); end = n - length z } in p ∷ words_left n z) (sym f)))

pub words_left-none : (n : ℕ) (s w : List ℕ) → w ≡ after_leading is_blank_byte s → (length w == 0) ≡ true → length s ≤ n → (words_left n s ≡ []) × (words_left n w ≡ [])
words_left-none n s [] e h k = (words_left-blanks n s k ∙ ap (words_left n) (sym e), refl)
words_left-none n s (x ∷ t) e h k = absurd (let z : (suc (length t) == 0) ≡ false = other_byte (suc (length t)) 0 (λ i. absurd (omega arith)) in cc)

-- what follows the first unit is no longer than the text
pub after_first_unit-length : (s : List ℕ) → length (after_first_unit (λ b. b) s) ≤ length s
after_first_unit-length s = omega (arith, length-drop (length (first_unit (λ b. b) s)) s)

-- what follows the first unit of a text that is not empty is shorter
pub after_first_unit-less : (s r : List ℕ) → r ≡ after_first_unit (λ b. b) s → 0 < length s → length r < length s
after_first_unit-less [] r e h = absurd (omega arith)
after_first_unit-less (x ∷ t) r e h = omega (arith, ap length e, after_first_unit-shorter x t)

-- ---- the first unit or word of a text, cut off

-- a text cut before the part that follows its first part
cut_after : (t u a f r : List ℕ) (n : ℕ) → u ++ a ≡ t → n ≡ length t - length a → f ≡ take n t → r ≡ drop n t → (f ≡ u) × (r ≡ a)
cut_after t u a f r n h e i j =
    let k : n ≡ length u = omega (arith, ap length h, length-append u a) in (
      i ∙ (ap (take n) (sym h) ∙ (ap (λ m. take m (u ++ a)) k ∙ take-append_seam u a)),
      j ∙ (ap (drop n) (sym h) ∙ (ap (λ m. drop m (u ++ a)) k ∙ drop-append_seam u a)),
    )

-- the first unit of a text that is not empty, and the units of what follows it
pub units-cut : (t a f r : List ℕ) → (length t == 0) ≡ false → a ≡ after_first_unit (λ b. b) t → f ≡ take (length t - length a) t → r ≡ drop (length t - length a) t
    → units (λ b. b) t ≡ f ∷ units (λ b. b) r
units-cut [] a f r h e i j = cc
units-cut (x ∷ t) a f r h e i j =
    let u = first_unit (λ b. b) (x ∷ t) in
    let p = cut_after (x ∷ t) u a f r (length (x ∷ t) - length a) (ap (λ z. u ++ z) e ∙ first_unit-after x t) refl i j in
    units-first_unit (λ b. b) x t ∙ (ap (λ z. z ∷ units (λ b. b) (after_first_unit (λ b. b) (x ∷ t))) (sym p.0) ∙ ap (λ z. f ∷ units (λ b. b) z) (sym (p.1 ∙ e)))

words-blank : (x : ℕ) (t : List ℕ) → is_blank_byte x ≡ true → words (λ b. b) (x ∷ t) ≡ words (λ b. b) t
words-blank x t h =
    ap (λ us. token_words (tokens (λ b. b) us)) (units-blank x t h)
    ∙ ap (λ g. token_words (before_tokens g (x ∷ []) (tokens (λ b. b) (units (λ b. b) t)))) h

-- blanks at the front change no word
words-blanks : (t : List ℕ) → words (λ b. b) t ≡ words (λ b. b) (after_leading is_blank_byte t)
words-blanks [] = refl
words-blanks (x ∷ t) = go (is_blank_byte x) refl (words-blanks t)
  where
    go : (c : Bool) → is_blank_byte x ≡ c → words (λ b. b) t ≡ words (λ b. b) (after_leading is_blank_byte t)
        → words (λ b. b) (x ∷ t) ≡ words (λ b. b) (cond c (after_leading is_blank_byte t) (x ∷ t))
    go true e ih = words-blank x t e ∙ ih
    go false e ih = refl

-- a text of blanks has no word
pub words-none : (s w : List ℕ) → w ≡ after_leading is_blank_byte s → (length w == 0) ≡ true → words (λ b. b) s ≡ []
words-none s [] e h = words-blanks s ∙ ap (words (λ b. b)) (sym e)
words-none s (x ∷ t) e h = absurd (let z : (suc (length t) == 0) ≡ false = other_byte (suc (length t)) 0 (λ i. absurd (omega arith)) in cc)

-- the first word of a text that has one, and the words of what follows it
pub words-cut : (s w a f r : List ℕ) → w ≡ after_leading is_blank_byte s → (length w == 0) ≡ false → a ≡ after_word w → f ≡ take (length w - length a) w → r ≡ drop (length w - length a) w
    → words (λ b. b) s ≡ f ∷ words (λ b. b) r
words-cut s [] a f r e h k i j = cc
words-cut s (x ∷ t) a f r e h k i j =
    let u = concat (leading (λ v. not (is_gap (λ b. b) v)) (units (λ b. b) (x ∷ t))) in
    let p = cut_after (x ∷ t) u a f r (length (x ∷ t) - length a) (ap (λ z. u ++ z) k ∙ after_word-split (x ∷ t)) refl i j in
    words-blanks s
    ∙ (ap (words (λ b. b)) (sym e)
    ∙ (ap token_words (tokens-word_first x t (subst (FirstFails is_blank_byte) (sym e) (after_leading-first_fails is_blank_byte s)))
    ∙ (ap (λ z. z ∷ words (λ b. b) (after_word (x ∷ t))) (sym p.0) ∙ ap (λ z. f ∷ words (λ b. b) z) (sym (p.1 ∙ k)))))

-- what follows a word is shorter than the text
pub after_word-shorter : (s w a : List ℕ) → w ≡ after_leading is_blank_byte s → (length w == 0) ≡ false → a ≡ after_word w → length a < length w
after_word-shorter s [] a e h k = cc
after_word-shorter s (x ∷ t) a e h k =
    let i : a ≡ after_word (after_first_unit (λ b. b) (x ∷ t)) =
    k ∙ after_word-step x t (after_first_unit (λ b. b) (x ∷ t)) (subst (FirstFails is_blank_byte) (sym e) (after_leading-first_fails is_blank_byte s)) refl in
    omega (arith, ap length i, after_word-length (after_first_unit (λ b. b) (x ∷ t)), after_first_unit-shorter x t)
