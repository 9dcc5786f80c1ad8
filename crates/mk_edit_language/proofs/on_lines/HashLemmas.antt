-- No value of an assignment begins with a `#`.
use Rattle.std.proofs.Common.{◌≡◌, refl, sym, ap, ◌∙◌, subst, ℕ, List, [], ◌∷◌, ◌++◌, append_assoc, Bool, true, false, not, cond, Option}
use Rattle.std.proofs.lemmas.Bool.{eqb-true}
use Rattle.std.specs.Prelude.{◌==◌, nat_lt}
use Rattle.mk_lines.specs.Lists.{Each}
use Rattle.mk_lines.proofs.on_lists.ListLemmas.{leading-after_leading, leading-each, Each-left, Each-right}
use Rattle.mk_lines.specs.Cut.{continuation, pieces}
use Rattle.mk_lines.proofs.on_lists.CutLemmas.{continuation-start}
use Rattle.mk_lines.specs.Cells.{Cell, joined_byte, line_cells}
use Rattle.mk_lines.specs.Units.{byte_mark, UnitState, next_unit_state, units, unit_step, unit_begins}
use Rattle.mk_lines.specs.Units.UnitState.{Between}
use Rattle.mk_lines.proofs.on_units.UnitLemmas.{begins-always, step-again}
use Rattle.mk_class.specs.ListTests.{first_passes}
use Rattle.mk_class.specs.Texts.{unit_text}
use Rattle.mk_class.specs.Symbols.{byte_symbol, is_hash_symbol}
use Rattle.mk_class.specs.CutTexts.{is_no_hash, cut_text, comment}
use Rattle.mk_class.specs.Assignments.{Assignment, before_value}
use Rattle.mk_class.specs.RecipePrefix.{is_prefix_led}
use Rattle.mk_class.specs.Classes.Class.{Assign}
use Rattle.mk_class.specs.Contexts.{Context}
use Rattle.mk_class.specs.ClassTable.{class_of}
use Rattle.mk_class.proofs.on_assignments.AssignmentsWhole.{assignment_units}
use Rattle.mk_class.proofs.on_assignments.AssignmentLineLemmas.{assign_parts}
use Rattle.mk_class.proofs.on_classes.ClassLemmas.{class_at-assign, plain_class-assign}

-- whether a byte is a `#`
abbrev pub is_hash_byte : ℕ → Bool
is_hash_byte b = b == 35

-- ---- a unit that begins with a `#` is this byte

module _ {A : Type 0} (byte : A → ℕ) where
  -- whether a unit is one byte, or begins with no `#`
  abbrev has_lone_hash : List A → Bool
  has_lone_hash [] = false
  has_lone_hash (x ∷ []) = true
  has_lone_hash (x ∷ y ∷ u) = not (is_hash_byte (byte x))

  lone-first : (s : UnitState) (x : A) (t : List A) → unit_begins byte s x ≡ true → has_lone_hash (x ∷ continuation (unit_step byte) (unit_begins byte) (unit_step byte s x) t) ≡ true
  lone-first s x t h = go (is_hash_byte (byte x)) refl
    where
      other : (u : List A) → is_hash_byte (byte x) ≡ false → has_lone_hash (x ∷ u) ≡ true
      other [] e = refl
      other (y ∷ u) e = ap not e

      go : (b : Bool) → is_hash_byte (byte x) ≡ b → has_lone_hash (x ∷ continuation (unit_step byte) (unit_begins byte) (unit_step byte s x) t) ≡ true
      go false e = other (continuation (unit_step byte) (unit_begins byte) (unit_step byte s x) t) e
      go true e =
          let between : unit_step byte s x ≡ Between = step-again byte s x h ∙ ap (λ z. next_unit_state Between (byte_mark z)) (eqb-true (byte x) 35 e) in
          ap (λ z. has_lone_hash (x ∷ z))
          (ap (λ z. continuation (unit_step byte) (unit_begins byte) z t) between ∙ continuation-start (unit_step byte) (unit_begins byte) Between (begins-always byte) t)

  lone-units : (s : UnitState) (t : List A) → Each has_lone_hash (pieces (unit_step byte) (unit_begins byte) s t)
  lone-units s [] = tt
  lone-units s (x ∷ t) = go (unit_begins byte s x) refl (lone-units (unit_step byte s x) t)
    where
      rest : List (List A)
      rest = pieces (unit_step byte) (unit_begins byte) (unit_step byte s x) t

      go : (b : Bool) → unit_begins byte s x ≡ b → Each has_lone_hash rest → Each has_lone_hash (cond b ((x ∷ continuation (unit_step byte) (unit_begins byte) (unit_step byte s x) t) ∷ rest) rest)
      go true e h = (lone-first s x t e, h)
      go false e h = h

-- ---- a value

-- units of which none is `#`
first-no_hash : (us : List (List Cell)) → Each (has_lone_hash joined_byte) us → Each (is_no_hash joined_byte) us → first_passes is_hash_byte (unit_text joined_byte us) ≡ false
first-no_hash [] h k = refl
first-no_hash ([] ∷ us) h k = absurd (let e : false ≡ true = h.0 in cc)
first-no_hash ((x ∷ []) ∷ us) h k = go (is_hash_byte (joined_byte x)) refl
  where
    go : (b : Bool) → is_hash_byte (joined_byte x) ≡ b → b ≡ false
    go false e = refl
    go true e = absurd (let n : false ≡ true = ap (λ z. not (is_hash_symbol (byte_symbol z))) (sym (eqb-true (joined_byte x) 35 e)) ∙ k.0 in cc)
first-no_hash ((x ∷ y ∷ u) ∷ us) h k = go (is_hash_byte (joined_byte x)) h.0
  where
    go : (b : Bool) → not b ≡ true → b ≡ false
    go false e = refl
    go true e = absurd (cc)

-- the value of an assignment's line
pub value-no_hash : (c : Context) (l : List ℕ) (a : Assignment Cell) (p : Option ℕ) → class_of c l ≡ Assign a p → first_passes is_hash_byte (unit_text joined_byte a.value) ≡ false
value-no_hash c l a p h =
    let led = is_prefix_led c.prefix l in
    let flag = nat_lt 0 c.conditionals in
    let us = units joined_byte (line_cells l) in
    let r = class_at-assign led c.defines c.flag flag (line_cells l) us a p h in
    let P = assign_parts l a (plain_class-assign led flag (line_cells l) us a p r.here) in
    let form : assignment_units a ≡ before_value a ++ (a.value ++ a.after) = simp append_assoc in
    let whole : cut_text joined_byte us ≡ before_value a ++ (a.value ++ a.after) = sym P.is.whole ∙ form in
    let lone : Each (has_lone_hash joined_byte) (cut_text joined_byte us) =
    Each-left (has_lone_hash joined_byte) (cut_text joined_byte us) (comment joined_byte us)
    (subst (Each (has_lone_hash joined_byte)) (sym (leading-after_leading (is_no_hash joined_byte) us)) (lone-units joined_byte Between (line_cells l))) in
    first-no_hash a.value (of_value (has_lone_hash joined_byte) (subst (Each (has_lone_hash joined_byte)) whole lone))
    (of_value (is_no_hash joined_byte) (subst (Each (is_no_hash joined_byte)) whole (leading-each (is_no_hash joined_byte) us)))
  where
    of_value : (test : List Cell → Bool) → Each test (before_value a ++ (a.value ++ a.after)) → Each test a.value
    of_value test k = Each-left test a.value a.after (Each-right test (before_value a) (a.value ++ a.after) k)
