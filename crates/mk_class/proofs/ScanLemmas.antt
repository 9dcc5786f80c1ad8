-- Lemmas of a text that is read from its front: what its first byte says of its first unit, and what the units of its rest are.
use mathlib.Core.Logic.{inl, inr}
use Rattle.std.specs.Prelude.{◌⊎◌}
use Rattle.mk_lines.specs.Bytes.ByteKind.{LineFeed, CarriageReturn, Backslash, Blank, Ordinary}
use Rattle.mk_lines.proofs.on_lists.ByteLemmas.{blank-byte}
use Rattle.std.proofs.Common.{◌≡◌, refl, sym, ap, ◌∙◌, subst, ℕ, suc, ◌+◌, ◌-◌, ◌≤◌, List, [], ◌∷◌, ◌++◌, Bool, true, false, not, ◌||◌, ◌&&◌, ◌==◌, cond, length, take, drop, get_or, length-append, arith}
use Rattle.std.proofs.Math.Seq.{take-append_seam}
use Rattle.std.proofs.lemmas.Bool.{eqb-true}
use Rattle.mk_lines.specs.Lists.{concat, leading, after_leading, trailing, trim_end, trim_end_before, trailing_before, FirstFails}
use Rattle.mk_lines.proofs.on_lists.ListLemmas.{after_leading-first_fails, concat-append, leading-after_leading, trim_end-trailing}
use Rattle.std.proofs.lemmas.List.{take-append-drop}
use Rattle.mk_class.specs.ListTests.{first_passes, last_passes, until, from, is_empty}
use Rattle.mk_class.proofs.on_symbols.ListLemmas.{until-from}
use Rattle.mk_class.specs.LocatedClasses.{width}
use Rattle.mk_lines.specs.Bytes.{byte_kind, is_blank_kind, ByteKind, is_blank_byte}
use Rattle.mk_lines.specs.Units.{byte_mark, units, unit_step, unit_begins}
use Rattle.mk_lines.specs.Units.Mark.{Unmarked}
use Rattle.mk_lines.specs.Units.UnitState.{Between}
use Rattle.mk_lines.specs.Cut.{continuation}
use Rattle.mk_lines.proofs.on_units.UnitLemmas.{concat-units, units-first}
use Rattle.mk_lines.specs.FirstUnit.{first_unit, after_first_unit, unit_at}
use Rattle.mk_lines.proofs.on_units.FirstUnitLemmas.{units-first_unit}
use Rattle.mk_lines.specs.Words.{is_gap}
use Rattle.std.specs.List.{list_any}
use Rattle.mk_class.proofs.on_symbols.SymbolLemmas.{blank-unmarked}
use Rattle.mk_class.specs.TextClasses.{itself}
use Rattle.mk_class.specs.Scans.{AreUnmarked, IsSplitAt, is_one_byte_of, is_other}

zero_other : (n : ℕ) → (suc n == 0) ≡ false
zero_other n = go (suc n == 0) refl
  where
    go : (c : Bool) → (suc n == 0) ≡ c → c ≡ false
    go true e = absurd (let k : suc n ≡ 0 = eqb-true (suc n) 0 e in omega arith)
    go false e = refl

-- ---- the first unit

-- the first unit is the first byte and what continues its unit
first_unit-begins : (x : ℕ) (t : List ℕ) → first_unit itself (x ∷ t) ≡ x ∷ continuation (unit_step itself) (unit_begins itself) (unit_step itself Between x) t
first_unit-begins x t = cc (units-first_unit itself x t)

-- a byte that means nothing to units is a unit by itself
first_unit-unmarked : (x : ℕ) (t : List ℕ) → byte_mark x ≡ Unmarked → first_unit itself (x ∷ t) ≡ x ∷ []
first_unit-unmarked x t h = ap (λ m. unit_at itself m x t) h

-- what follows such a unit is the rest of the text
pub units-unmarked : (x : ℕ) (t : List ℕ) → byte_mark x ≡ Unmarked → units itself (x ∷ t) ≡ (x ∷ []) ∷ units itself t
units-unmarked x t h = units-first_unit itself x t ∙ ap (λ u. u ∷ units itself (drop (length u) (x ∷ t))) (first_unit-unmarked x t h)

-- the first unit is a gap where the first byte is a blank
first_unit-gap : (x : ℕ) (t : List ℕ) → is_gap itself (first_unit itself (x ∷ t)) ≡ is_blank_byte x
first_unit-gap x t = go (is_blank_byte x) refl
  where
    none : (u : List ℕ) → is_blank_byte x ≡ false → is_gap itself (x ∷ u) ≡ false
    none [] e = e
    none (y ∷ u) e = refl

    go : (c : Bool) → is_blank_byte x ≡ c → is_gap itself (first_unit itself (x ∷ t)) ≡ c
    go true e = ap (is_gap itself) (first_unit-unmarked x t (blank-unmarked x e)) ∙ e
    go false e = ap (is_gap itself) (first_unit-begins x t) ∙ none _ e

any-unmarked : (stops : List ℕ) (x : ℕ) → AreUnmarked stops → list_any (λ b. b == x) stops ≡ true → byte_mark x ≡ Unmarked
any-unmarked [] x a h = cc
any-unmarked (b ∷ bs) x a h = go (b == x) refl h (λ k. any-unmarked bs x a.1 k)
  where
    go : (c : Bool) → (b == x) ≡ c → (c || list_any (λ d. d == x) bs) ≡ true → (list_any (λ d. d == x) bs ≡ true → byte_mark x ≡ Unmarked) → byte_mark x ≡ Unmarked
    go true e k ih = ap byte_mark (sym (eqb-true b x e)) ∙ a.0
    go false e k ih = ih k

-- the first unit is one of these bytes if the first byte is one of them
first_unit-other : (stops : List ℕ) (x : ℕ) (t : List ℕ) → AreUnmarked stops → is_other stops (first_unit itself (x ∷ t)) ≡ not (list_any (λ b. b == x) stops)
first_unit-other stops x t a = go (list_any (λ b. b == x) stops) refl
  where
    none : (u : List ℕ) → list_any (λ b. b == x) stops ≡ false → is_other stops (x ∷ u) ≡ true
    none [] e = ap not e
    none (y ∷ u) e = refl

    go : (c : Bool) → list_any (λ b. b == x) stops ≡ c → is_other stops (first_unit itself (x ∷ t)) ≡ not c
    go true e = ap (is_other stops) (first_unit-unmarked x t (any-unmarked stops x a e)) ∙ ap not e
    go false e = ap (is_other stops) (first_unit-begins x t) ∙ none _ e

-- ---- the rest of a text

module _ (p : List ℕ → Bool) where
  -- the step over a first unit that passes the test
  after_leading-over : (x : ℕ) (t r : List ℕ) → r ≡ after_first_unit itself (x ∷ t) → p (first_unit itself (x ∷ t)) ≡ true
      → after_leading p (units itself r) ≡ after_leading p (units itself (x ∷ t))
  after_leading-over x t r e h =
      ap (λ z. after_leading p (units itself z)) e
      ∙ sym (ap (after_leading p) (units-first_unit itself x t) ∙ ap (λ c. cond c (after_leading p (units itself (after_first_unit itself (x ∷ t)))) (first_unit itself (x ∷ t) ∷ units itself (after_first_unit itself (x ∷ t)))) h)

  -- the stop at a first unit that fails the test
  after_leading-at : (x : ℕ) (t : List ℕ) → p (first_unit itself (x ∷ t)) ≡ false → units itself (x ∷ t) ≡ after_leading p (units itself (x ∷ t))
  after_leading-at x t h =
      units-first_unit itself x t
      ∙ sym (ap (after_leading p) (units-first_unit itself x t) ∙ ap (λ c. cond c (after_leading p (units itself (after_first_unit itself (x ∷ t)))) (first_unit itself (x ∷ t) ∷ units itself (after_first_unit itself (x ∷ t)))) h)

-- the step over a first unit, if the test is whether the first byte is one of these bytes
pub from_any-over : (stops s r : List ℕ) → AreUnmarked stops → 1 ≤ length s → list_any (λ b. b == get_or s 0 0) stops ≡ false → r ≡ after_first_unit itself s
    → after_leading (is_other stops) (units itself r) ≡ after_leading (is_other stops) (units itself s)
from_any-over stops [] r a h k e = absurd (omega arith)
from_any-over stops (x ∷ t) r a h k e = after_leading-over (is_other stops) x t r e (first_unit-other stops x t a ∙ ap not k)

pub from_any-at : (stops s : List ℕ) → AreUnmarked stops → 1 ≤ length s → list_any (λ b. b == get_or s 0 0) stops ≡ true
    → units itself s ≡ after_leading (is_other stops) (units itself s)
from_any-at stops [] a h k = absurd (omega arith)
from_any-at stops (x ∷ t) a h k = after_leading-at (is_other stops) x t (first_unit-other stops x t a ∙ ap not k)

-- ---- a part of a text

minus_end : (a b c : ℕ) → a ≡ b + c → a - c ≡ b
minus_end a b c h = omega arith

-- what stands before a rest that has the last units of a text
pub units-before : (t r : List ℕ) (front : List (List ℕ)) → units itself t ≡ front ++ units itself r → units itself (take (length t - length r) t) ≡ front
units-before t r front h =
    let e : t ≡ concat front ++ r = sym (concat-units itself t) ∙ (ap concat h ∙ (concat-append front (units itself r) ∙ ap (λ z. concat front ++ z) (concat-units itself r))) in
    let n : length t - length r ≡ length (concat front) = minus_end (length t) (length (concat front)) (length r) (ap length e ∙ length-append (concat front) r) in
    ap (λ k. units itself (take k t)) n
    ∙ (ap (λ z. units itself (take (length (concat front)) z)) e
    ∙ (ap (units itself) (take-append_seam (concat front) r) ∙ units-first itself t front (units itself r) h))

-- ---- tests that agree

-- tests that agree leave the same
pub after_leading-same : (p q : List ℕ → Bool) → ((u : List ℕ) → p u ≡ q u) → (us : List (List ℕ)) → after_leading p us ≡ after_leading q us
after_leading-same p q h [] = refl
after_leading-same p q h (u ∷ us) = rw (h u, after_leading-same p q h us) refl

-- a byte is a blank where it is a space or a tab
blank-test : (x : ℕ) → list_any (λ b. b == x) (32 ∷ 9 ∷ []) ≡ is_blank_byte x
blank-test x = go (32 == x) refl (9 == x) refl
  where
    of : (32 == x) ≡ false → (9 == x) ≡ false → (x ≡ 32) ⊎ (x ≡ 9) → ⊥
    of e f (inl h) = (cc (sym h, e))
    of e f (inr h) = (cc (sym h, f))

    none : (k : ByteKind) → byte_kind x ≡ k → (32 == x) ≡ false → (9 == x) ≡ false → false ≡ is_blank_kind k
    none LineFeed h e f = refl
    none CarriageReturn h e f = refl
    none Backslash h e f = refl
    none Blank h e f = absurd (of e f (blank-byte x h))
    none Ordinary h e f = refl

    go : (c : Bool) → (32 == x) ≡ c → (d : Bool) → (9 == x) ≡ d → (c || (d || false)) ≡ is_blank_byte x
    go true e d f = ap is_blank_byte (eqb-true 32 x e)
    go false e true f = ap is_blank_byte (eqb-true 9 x f)
    go false e false f = none (byte_kind x) refl e f

-- a unit is a gap where it is a space or a tab
pub other-gap : (u : List ℕ) → is_other (32 ∷ 9 ∷ []) u ≡ not (is_gap itself u)
other-gap [] = refl
other-gap (x ∷ []) = ap not (blank-test x)
other-gap (x ∷ y ∷ u) = refl

-- ---- the blanks at the end

trailing-cut : (x : List ℕ) (xs : List (List ℕ)) → is_gap itself x ≡ false → trailing (is_gap itself) (x ∷ xs) ≡ trailing (is_gap itself) xs
trailing-cut x xs h = ap (λ c. trailing_before c x (trim_end (is_gap itself) xs) (trailing (is_gap itself) xs)) h

-- the trailing blanks of units are those after the words
trailing-after_word : (us : List (List ℕ)) → trailing (is_gap itself) (after_leading (λ u. not (is_gap itself u)) us) ≡ trailing (is_gap itself) us
trailing-after_word [] = refl
trailing-after_word (u ∷ us) = go (is_gap itself u) refl (trailing-after_word us)
  where
    go : (c : Bool) → is_gap itself u ≡ c → trailing (is_gap itself) (after_leading (λ v. not (is_gap itself v)) us) ≡ trailing (is_gap itself) us
        → trailing (is_gap itself) (cond (not c) (after_leading (λ v. not (is_gap itself v)) us) (u ∷ us)) ≡ trailing (is_gap itself) (u ∷ us)
    go true e ih = refl
    go false e ih = ih ∙ sym (trailing-cut u us e)

module _ (p : List ℕ → Bool) where
  none_kept : (us : List (List ℕ)) → trim_end p us ≡ [] → after_leading p us ≡ []
  none_kept [] h = refl
  none_kept (u ∷ us) h = go (p u) (trim_end p us) refl h (λ k. none_kept us k)
    where
      go : (c : Bool) (t : List (List ℕ)) → trim_end p us ≡ t → trim_end_before c u t ≡ [] → (trim_end p us ≡ [] → after_leading p us ≡ []) → cond c (after_leading p us) (u ∷ us) ≡ []
      go true [] e h ih = ih e
      go true (y ∷ t) e h ih = cc
      go false t e h ih = cc

  none_left : (us : List (List ℕ)) → after_leading p us ≡ [] → trim_end p us ≡ []
  none_left [] h = refl
  none_left (u ∷ us) h = go (p u) h (λ k. none_left us k)
    where
      go : (c : Bool) → cond c (after_leading p us) (u ∷ us) ≡ [] → (after_leading p us ≡ [] → trim_end p us ≡ []) → trim_end_before c u (trim_end p us) ≡ []
      go true h ih = ap (trim_end_before true u) (ih h)
      go false h ih = cc

  -- if all elements pass, all are trailing
  trailing-whole : (us : List (List ℕ)) → after_leading p us ≡ [] → trailing p us ≡ us
  trailing-whole [] h = refl
  trailing-whole (u ∷ us) h = go (p u) h (λ k. trailing-whole us k)
    where
      go : (c : Bool) → cond c (after_leading p us) (u ∷ us) ≡ [] → (after_leading p us ≡ [] → trailing p us ≡ us) → trailing_before c u (trim_end p us) (trailing p us) ≡ u ∷ us
      go true h ih = ap (λ t. trailing_before true u t (trailing p us)) (none_left us h) ∙ ap (λ t. u ∷ t) (ih h)
      go false h ih = cc

  -- if some element fails, the elements before it do not matter
  trailing-after : (us : List (List ℕ)) (v : List ℕ) (vs : List (List ℕ)) → after_leading p us ≡ v ∷ vs → trailing p (after_leading p us) ≡ trailing p us
  trailing-after [] v vs h = cc
  trailing-after (u ∷ us) v vs h = go (p u) refl (trim_end p us) refl h (λ k. trailing-after us v vs k)
    where
      go : (c : Bool) → p u ≡ c → (t : List (List ℕ)) → trim_end p us ≡ t → cond c (after_leading p us) (u ∷ us) ≡ v ∷ vs
          → (after_leading p us ≡ v ∷ vs → trailing p (after_leading p us) ≡ trailing p us) → trailing p (cond c (after_leading p us) (u ∷ us)) ≡ trailing p (u ∷ us)
      go true e [] k h ih = absurd (let n : after_leading p us ≡ [] = none_kept us k in cc)
      go true e (y ∷ t) k h ih = ih h ∙ sym (ap (λ c. trailing_before c u (trim_end p us) (trailing p us)) e ∙ ap (λ z. trailing_before true u z (trailing p us)) k)
      go false e t k h ih = refl

-- one word less
pub blanks_at_end-step : (rest word r1 r2 : List ℕ) → units itself word ≡ after_leading (is_gap itself) (units itself rest) → (length word == 0) ≡ false → r1 ≡ after_first_unit itself word
    → units itself r2 ≡ after_leading (is_other (32 ∷ 9 ∷ [])) (units itself r1) → trailing (is_gap itself) (units itself r2) ≡ trailing (is_gap itself) (units itself rest)
blanks_at_end-step rest [] r1 r2 h k e f = cc
blanks_at_end-step rest (x ∷ t) r1 r2 h k e f =
    let u = first_unit itself (x ∷ t) in
    let us = units itself (after_first_unit itself (x ∷ t)) in
    let cut : after_leading (is_gap itself) (units itself rest) ≡ u ∷ us = sym h ∙ units-first_unit itself x t in
    let not_gap : is_gap itself u ≡ false = subst (FirstFails (is_gap itself)) cut (after_leading-first_fails (is_gap itself) (units itself rest)) in
    ap (trailing (is_gap itself)) (f ∙ after_leading-same (is_other (32 ∷ 9 ∷ [])) (λ v. not (is_gap itself v)) other-gap (units itself r1))
    ∙ (trailing-after_word (units itself r1)
    ∙ (ap (λ z. trailing (is_gap itself) (units itself z)) e
    ∙ (sym (trailing-cut u us not_gap)
    ∙ (ap (trailing (is_gap itself)) (sym cut) ∙ trailing-after (is_gap itself) (units itself rest) u us cut))))

-- a text of which nothing follows its blanks
pub blanks_at_end-whole : (rest word : List ℕ) → units itself word ≡ after_leading (is_gap itself) (units itself rest) → (length word == 0) ≡ true → units itself rest ≡ trailing (is_gap itself) (units itself rest)
blanks_at_end-whole rest [] h k = sym (trailing-whole (is_gap itself) (units itself rest) (sym h))
blanks_at_end-whole rest (x ∷ t) h k = absurd (let z : (suc (length t) == 0) ≡ false = zero_other (length t) in cc)

-- ---- how many bytes there are

-- the units before a rest have the bytes before it
pub width-before : (t r : List ℕ) (front : List (List ℕ)) → units itself t ≡ front ++ units itself r → length t ≡ width front + length r
width-before t r front h =
    ap length (sym (concat-units itself t) ∙ (ap concat h ∙ concat-append front (units itself r)))
    ∙ (length-append (concat front) (concat (units itself r)) ∙ ap (λ z. width front + length z) (concat-units itself r))

-- the units of a text have its bytes
pub width-units : (t : List ℕ) → width (units itself t) ≡ length t
width-units t = ap length (concat-units itself t)

pub width-append : (a b : List (List ℕ)) → width (a ++ b) ≡ width a + width b
width-append a b = ap length (concat-append a b) ∙ length-append (concat a) (concat b)

-- a text is what stands at its front and the rest of it
pub leading-before : (p : List ℕ → Bool) (t r : List ℕ) → units itself r ≡ after_leading p (units itself t) → units itself t ≡ leading p (units itself t) ++ units itself r
leading-before p t r h = sym (leading-after_leading p (units itself t)) ∙ ap (λ z. leading p (units itself t) ++ z) (sym h)

pub until-before : (p : List (List ℕ) → Bool) (t r : List ℕ) → units itself r ≡ from p (units itself t) → units itself t ≡ until p (units itself t) ++ units itself r
until-before p t r h = sym (until-from p (units itself t)) ∙ ap (λ z. until p (units itself t) ++ z) (sym h)

pub trim_end-before : (p : List ℕ → Bool) (t r : List ℕ) → units itself r ≡ trailing p (units itself t) → units itself t ≡ trim_end p (units itself t) ++ units itself r
trim_end-before p t r h = sym (trim_end-trailing p (units itself t)) ∙ ap (λ z. trim_end p (units itself t) ++ z) (sym h)

pub take-before : (n : ℕ) (t r : List ℕ) → units itself r ≡ drop n (units itself t) → units itself t ≡ take n (units itself t) ++ units itself r
take-before n t r h = sym (take-append-drop n (units itself t)) ∙ ap (λ z. take n (units itself t) ++ z) (sym h)

-- if nothing stands before the offset, the text has as many bytes from there on
cut-none : (c : Bool) (x : ℕ) (m : List ℕ) (u : List ℕ) (us : List (List ℕ)) → u ≡ x ∷ m → width (cond c [] (u ∷ us)) ≡ 0 → cond c [] (u ∷ us) ≡ []
cut-none true x m u us e z = refl
cut-none false x m u us e z = absurd (let n : suc (length (m ++ concat us)) ≡ 0 = ap (λ w. width (w ∷ us)) (sym e) ∙ z in omega (arith, n))

pub until-none : (p : List (List ℕ) → Bool) (t r : List ℕ) → units itself r ≡ from p (units itself t) → length r ≡ length t → until p (units itself t) ≡ []
until-none p [] r h k = refl
until-none p (x ∷ t) r h k =
    let u = first_unit itself (x ∷ t) in
    let us = units itself (after_first_unit itself (x ∷ t)) in
    let n : length (x ∷ t) ≡ width (until p (units itself (x ∷ t))) + length r = width-before (x ∷ t) r (until p (units itself (x ∷ t))) (until-before p (x ∷ t) r h) in
    let z : width (until p (units itself (x ∷ t))) ≡ 0 = omega (arith, n, k) in
    let cut : units itself (x ∷ t) ≡ u ∷ us = units-first_unit itself x t in
    ap (until p) cut ∙ cut-none (p (u ∷ us)) x _ u (until p us) (first_unit-begins x t) (ap (λ w. width (until p w)) (sym cut) ∙ z)

-- ---- tests of all units

-- a text is empty where it has no unit
pub empty-units : (r : List ℕ) → is_empty (units itself r) ≡ (length r == 0)
empty-units [] = refl
empty-units (x ∷ t) = sym (zero_other (length t))

-- some unit passes the test if something follows from that unit on
pub any-left : (p : List ℕ → Bool) (us : List (List ℕ)) → list_any p us ≡ not (is_empty (after_leading (λ u. not (p u)) us))
any-left p [] = refl
any-left p (u ∷ us) = go (p u) (any-left p us)
  where
    go : (c : Bool) → list_any p us ≡ not (is_empty (after_leading (λ v. not (p v)) us)) → (c || list_any p us) ≡ not (is_empty (cond (not c) (after_leading (λ v. not (p v)) us) (u ∷ us)))
    go true ih = refl
    go false ih = ih

-- units split at one that is a byte
pub split_at_unit-some : (byte : ℕ) (t rest front after : List ℕ) → byte_mark byte ≡ Unmarked → units itself rest ≡ after_leading (is_other (byte ∷ [])) (units itself t) → (length rest == 0) ≡ false
    → ((p : List (List ℕ)) → units itself t ≡ p ++ units itself rest → units itself front ≡ p) → after ≡ after_first_unit itself rest
    → IsSplitAt byte (units itself t) (units itself front) (units itself after)
split_at_unit-some byte t [] front after m h k f e = cc
split_at_unit-some byte t (x ∷ s) front after m h k f e =
    let p = is_other (byte ∷ []) in
    let u = first_unit itself (x ∷ s) in
    let cut : units itself (x ∷ s) ≡ u ∷ units itself (after_first_unit itself (x ∷ s)) = units-first_unit itself x s in
    let fails : p u ≡ false = subst (FirstFails p) (sym h ∙ cut) (after_leading-first_fails p (units itself t)) in
    let test : not (list_any (λ b. b == x) (byte ∷ [])) ≡ false = sym (first_unit-other (byte ∷ []) x s (m, tt)) ∙ fails in
    let same : byte ≡ x = of (byte == x) refl test in
    let whole : u ≡ byte ∷ [] = first_unit-unmarked x s (ap byte_mark (sym same) ∙ m) ∙ ap (λ z. z ∷ []) (sym same) in
    (sym (f (leading p (units itself t)) (leading-before p t (x ∷ s) h)), sym h ∙ (cut ∙ (ap (λ z. z ∷ units itself (after_first_unit itself (x ∷ s))) whole ∙ ap (λ z. (byte ∷ []) ∷ units itself z) (sym e))))
  where
    of : (c : Bool) → (byte == x) ≡ c → not (c || false) ≡ false → byte ≡ x
    of true e h = eqb-true byte x e
    of false e h = cc

pub has_unit-left : (byte : ℕ) (t rest : List ℕ) → units itself rest ≡ after_leading (is_other (byte ∷ [])) (units itself t) → not (length rest == 0) ≡ list_any (is_one_byte_of (byte ∷ [])) (units itself t)
has_unit-left byte t rest h = ap not (sym (empty-units rest) ∙ ap is_empty h) ∙ sym (any-left (is_one_byte_of (byte ∷ [])) (units itself t))

-- the step over the first unit of a text that is not empty
pub any-over : (p : List ℕ → Bool) (s r : List ℕ) → (length s == 0) ≡ false → first_passes p (units itself s) ≡ false → r ≡ after_first_unit itself s → list_any p (units itself r) ≡ list_any p (units itself s)
any-over p [] r h k e = cc
any-over p (x ∷ t) r h k e =
    let us = units itself (after_first_unit itself (x ∷ t)) in
    let cut : units itself (x ∷ t) ≡ first_unit itself (x ∷ t) ∷ us = units-first_unit itself x t in
    ap (λ z. list_any p (units itself z)) e ∙ sym (ap (list_any p) cut ∙ ap (λ c. c || list_any p us) (ap (first_passes p) (sym cut) ∙ k))

pub from-over : (p : List (List ℕ) → Bool) (s r : List ℕ) → (length s == 0) ≡ false → p (units itself s) ≡ false → r ≡ after_first_unit itself s → from p (units itself r) ≡ from p (units itself s)
from-over p [] r h k e = cc
from-over p (x ∷ t) r h k e =
    let us = units itself (after_first_unit itself (x ∷ t)) in
    let cut : units itself (x ∷ t) ≡ first_unit itself (x ∷ t) ∷ us = units-first_unit itself x t in
    ap (λ z. from p (units itself z)) e ∙ sym (ap (from p) cut ∙ ap (λ c. cond c (first_unit itself (x ∷ t) ∷ us) (from p us)) (ap p (sym cut) ∙ k))

-- the last unit is no gap where no blanks are trailing
last-no_gap : (us : List (List ℕ)) → last_passes (λ u. not (is_gap itself u)) us ≡ (not (is_empty us) && is_empty (trailing (is_gap itself) us))
last-no_gap [] = refl
last-no_gap (u ∷ []) = go (is_gap itself u)
  where
    go : (c : Bool) → not c ≡ is_empty (trailing_before c u [] [])
    go true = refl
    go false = refl
last-no_gap (u ∷ v ∷ us) = last-no_gap (v ∷ us) ∙ go (is_gap itself u) (trim_end (is_gap itself) (v ∷ us)) refl (trailing (is_gap itself) (v ∷ us)) refl
  where
    all_trailing : (t : List (List ℕ)) → [] ≡ t → t ++ trailing (is_gap itself) (v ∷ us) ≡ v ∷ us → trailing (is_gap itself) (v ∷ us) ≡ v ∷ us
    all_trailing t e h = ap (λ z. z ++ trailing (is_gap itself) (v ∷ us)) e ∙ h

    go : (c : Bool) (t : List (List ℕ)) → trim_end (is_gap itself) (v ∷ us) ≡ t → (r : List (List ℕ)) → trailing (is_gap itself) (v ∷ us) ≡ r → is_empty r ≡ is_empty (trailing_before c u t r)
    go true [] e [] f = absurd (let z : trailing (is_gap itself) (v ∷ us) ≡ v ∷ us = all_trailing (trim_end (is_gap itself) (v ∷ us)) (sym e) (trim_end-trailing (is_gap itself) (v ∷ us)) in cc)
    go true [] e (x ∷ r) f = refl
    go true (y ∷ t) e r f = refl
    go false t e r f = refl

pub ends_in_word-left : (t b : List ℕ) → (length t == 0) ≡ false → units itself b ≡ trailing (is_gap itself) (units itself t) → (length b == 0) ≡ last_passes (λ u. not (is_gap itself u)) (units itself t)
ends_in_word-left t b h k =
    sym (
    last-no_gap (units itself t)
    ∙ (ap (λ z. not z && is_empty (trailing (is_gap itself) (units itself t))) (empty-units t ∙ h) ∙ (ap is_empty (sym k) ∙ empty-units b))
    )

-- the first unit is no gap where the first byte is no blank
pub first-no_gap : (s : List ℕ) → 1 ≤ length s → not (is_blank_byte (get_or s 0 0)) ≡ first_passes (λ u. not (is_gap itself u)) (units itself s)
first-no_gap [] h = absurd (omega arith)
first-no_gap (x ∷ t) h = ap not (sym (first_unit-gap x t)) ∙ sym (ap (first_passes (λ u. not (is_gap itself u))) (units-first_unit itself x t))
