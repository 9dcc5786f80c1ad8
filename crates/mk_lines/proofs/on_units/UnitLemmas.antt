-- Laws of units: joined they are the text; the units of a closed text stay whatever follows; and some units may be replaced by
-- those of a closed text.
use Rattle.std.proofs.Common.{◌≡◌, refl, sym, ap, ◌∙◌, ℕ, List, [], ◌∷◌, ◌++◌, map, true, append_assoc}
use Rattle.mk_lines.specs.Lists.{concat}
use Rattle.mk_lines.specs.Cut.{state_after}
use Rattle.mk_lines.specs.Units.{Mark, byte_mark, UnitState, next_unit_state, begins_unit, is_between, units, unit_step, unit_begins, is_closed}
use Rattle.mk_lines.specs.Units.Mark.{Dollar, Escape, OpenParen, CloseParen, OpenBrace, CloseBrace, Unmarked}
use Rattle.mk_lines.specs.Units.UnitState.{Between, AfterDollar, AfterBackslash, InParens, InBraces}
use Rattle.mk_lines.proofs.on_lists.ListLemmas.{concat-append}
use Rattle.mk_lines.proofs.on_lists.CutLemmas.{state_after-append, recut-first, recut-last, begins-at_piece, pieces-append, continuation-start, concat-pieces_from_start, state_after-map, pieces-map}

mark-again : (s : UnitState) (m : Mark) → begins_unit s m ≡ true → next_unit_state s m ≡ next_unit_state Between m
mark-again Between m h = refl
mark-again AfterBackslash Dollar h = refl
mark-again AfterBackslash Escape h = cc
mark-again AfterBackslash OpenParen h = cc
mark-again AfterBackslash CloseParen h = cc
mark-again AfterBackslash OpenBrace h = cc
mark-again AfterBackslash CloseBrace h = cc
mark-again AfterBackslash Unmarked h = cc
mark-again AfterDollar m h = cc
mark-again (InParens n) m h = cc
mark-again (InBraces n) m h = cc

is_between-is : (s : UnitState) → is_between s ≡ true → s ≡ Between
is_between-is Between h = refl
is_between-is AfterDollar h = cc
is_between-is AfterBackslash h = cc
is_between-is (InParens n) h = cc
is_between-is (InBraces n) h = cc

begins-unmarked : (s : UnitState) → begins_unit s Unmarked ≡ true → s ≡ Between
begins-unmarked Between h = refl
begins-unmarked AfterBackslash h = cc
begins-unmarked AfterDollar h = cc
begins-unmarked (InParens n) h = cc
begins-unmarked (InBraces n) h = cc

module _ {A : Type 0} (byte : A → ℕ) where
  -- between two units each element begins a unit; an element that begins a unit leads to the same state as between two units
  pub begins-always : (x : A) → unit_begins byte Between x ≡ true
  begins-always x = refl

  pub step-again : (s : UnitState) (x : A) → unit_begins byte s x ≡ true → unit_step byte s x ≡ unit_step byte Between x
  step-again s x h = mark-again s (byte_mark (byte x)) h

  -- the units of a text, joined, are the text
  pub concat-units : (t : List A) → concat (units byte t) ≡ t
  concat-units t = concat-pieces_from_start (unit_step byte) (unit_begins byte) Between begins-always t

  -- a closed text ends between two units
  pub is_closed-between : (t : List A) → is_closed byte t ≡ true → state_after (unit_step byte) Between t ≡ Between
  is_closed-between t h = is_between-is (state_after (unit_step byte) Between t) h

  -- the units of a closed text followed by any text are its own units and then those of that text
  pub units-append : (a b : List A) → is_closed byte a ≡ true → units byte (a ++ b) ≡ units byte a ++ units byte b
  units-append a b h = pieces-append (unit_step byte) (unit_begins byte) Between begins-always Between a b (is_closed-between a h)

  -- a closed text followed by a text is closed if that text is
  pub is_closed-append : (a b : List A) → is_closed byte a ≡ true → is_closed byte (a ++ b) ≡ is_closed byte b
  is_closed-append a b h =
      ap is_between (state_after-append (unit_step byte) Between a b) ∙ ap (λ z. is_between (state_after (unit_step byte) z b)) (is_closed-between a h)

  -- the first units of a text, and the last, are the units of their own text
  pub units-first : (t : List A) (P Q : List (List A)) → units byte t ≡ P ++ Q → units byte (concat P) ≡ P
  units-first t P Q h =
      rw (continuation-start (unit_step byte) (unit_begins byte) Between begins-always t) at ((recut-first (unit_step byte) (unit_begins byte) Between t P Q h).1)

  pub units-last : (t : List A) (P Q : List (List A)) → units byte t ≡ P ++ Q → units byte (concat Q) ≡ Q
  units-last t P Q h = recut-last (unit_step byte) (unit_begins byte) Between begins-always step-again Between t P Q h

  -- ---- units that end in a byte that is nothing to units

  -- a unit of one byte that is nothing to units
  abbrev pub IsPlainUnit : List A → Type 0
  IsPlainUnit [] = ⊥
  IsPlainUnit (x ∷ []) = byte_mark (byte x) ≡ Unmarked
  IsPlainUnit (x ∷ y ∷ u) = ⊥

  -- a list of units that ends in such a unit
  abbrev pub EndsPlain : List (List A) → Type 0
  EndsPlain [] = ⊥
  EndsPlain (u ∷ []) = IsPlainUnit u
  EndsPlain (u ∷ v ∷ us) = EndsPlain (v ∷ us)

  -- whatever stands before such units
  pub EndsPlain-append : (us : List (List A)) (u : List A) (vs : List (List A)) → EndsPlain (u ∷ vs) → EndsPlain (us ++ (u ∷ vs))
  EndsPlain-append [] u vs h = h
  EndsPlain-append (x ∷ []) u vs h = h
  EndsPlain-append (x ∷ y ∷ us) u vs h = EndsPlain-append (y ∷ us) u vs h

  -- the last unit of units that end in such a unit, by itself
  pub EndsPlain-split : (us : List (List A)) → EndsPlain us → (front : List (List A)) × (x : A) × (us ≡ front ++ ((x ∷ []) ∷ [])) × (byte_mark (byte x) ≡ Unmarked)
  EndsPlain-split [] h = absurd h
  EndsPlain-split ([] ∷ []) h = absurd h
  EndsPlain-split ((x ∷ []) ∷ []) h = ([], x, refl, h)
  EndsPlain-split ((x ∷ y ∷ u) ∷ []) h = absurd h
  EndsPlain-split (u ∷ v ∷ us) h = let s = EndsPlain-split (v ∷ us) h in (u ∷ s.0, s.1, ap (λ l. u ∷ l) s.2, s.3)

  closed-at : (t : List A) (C R : List (List A)) (x : A) → byte_mark (byte x) ≡ Unmarked → units byte t ≡ C ++ ((x ∷ []) ∷ R)
      → state_after (unit_step byte) Between (concat (C ++ ((x ∷ []) ∷ []))) ≡ Between
  closed-at t C R x m e =
      let b : begins_unit (state_after (unit_step byte) Between (concat C)) (byte_mark (byte x)) ≡ true =
      rw (continuation-start (unit_step byte) (unit_begins byte) Between begins-always t) at (begins-at_piece (unit_step byte) (unit_begins byte) Between t C R x [] e) in
      let c : state_after (unit_step byte) Between (concat C) ≡ Between = begins-unmarked (state_after (unit_step byte) Between (concat C)) (rw m at b) in
      rw (concat-append C ((x ∷ []) ∷ []), state_after-append (unit_step byte) Between (concat C) (x ∷ []), c, m) refl

  -- after units that end in such a unit, the text is between two units
  pub EndsPlain-closed : (t : List A) (B R : List (List A)) → EndsPlain B → units byte t ≡ B ++ R → is_closed byte (concat B) ≡ true
  EndsPlain-closed t B R p h =
      let s = EndsPlain-split B p in
      let e : units byte t ≡ s.0 ++ ((s.1 ∷ []) ∷ R) = h ∙ (ap (λ z. z ++ R) s.2 ∙ append_assoc s.0 ((s.1 ∷ []) ∷ []) R) in
      ap (λ z. is_closed byte (concat z)) s.2 ∙ ap is_between (closed-at t s.0 R s.1 s.3 e)

  -- the units of a text with some of them replaced by a closed text
  pub units-replaced : (t v : List A) (B V R : List (List A)) → is_closed byte (concat B) ≡ true → units byte t ≡ B ++ (V ++ R)
      → is_closed byte v ≡ true → units byte (concat B ++ (v ++ concat R)) ≡ B ++ (units byte v ++ R)
  units-replaced t v B V R p h c =
      let b : units byte (concat B) ≡ B = units-first t B (V ++ R) h in
      let r : units byte (concat R) ≡ R = units-last t (B ++ V) R (h ∙ sym (append_assoc B V R)) in
      units-append (concat B) (v ++ concat R) p ∙ (rw (b, units-append v (concat R) c, r) refl)

-- the units of an image are the images of the units: so of the cells of a line and of its joined text
pub units-map : {A B : Type 0} (f : A → B) (byte : B → ℕ) (t : List A) → units byte (map f t) ≡ map (map f) (units (λ x. byte (f x)) t)
units-map f byte t = pieces-map f (unit_step byte) (unit_begins byte) Between t

-- an image is closed if the text is
pub is_closed-map : {A B : Type 0} (f : A → B) (byte : B → ℕ) (t : List A) → is_closed byte (map f t) ≡ is_closed (λ x. byte (f x)) t
is_closed-map f byte t = ap is_between (state_after-map f (unit_step byte) Between t)
