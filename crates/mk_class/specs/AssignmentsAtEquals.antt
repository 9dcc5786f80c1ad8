-- Assignments once more, by their first unit `=`, which ends the operator: what stands before it
-- tells the modifiers, the name and the flavor, and what stands after it tells the value. A law
-- says that these are the assignments of `Assignments`.
-- Told in docs/LANGUAGE.md, chapter 2.
use Rattle.std.specs.Prelude.{ℕ, Bool, false, not, ◌||◌, List, [], ◌∷◌, ◌++◌, map, Option, Some, None}
use Rattle.mk_lines.specs.Lists.{leading, after_leading, trim_end, trailing}
use Rattle.mk_lines.specs.Words.{Token, Gap, Word, tokens, token_units, is_gap}
use Rattle.mk_class.specs.ListTests.{is_empty, until, from}
use Rattle.mk_class.specs.Symbols.{Symbol, Colon, Plus, Question, Exclamation, symbol, is_equals}
use Rattle.mk_class.specs.Assignments.{Assignment, ends_name_by, after_blanks, blanks, modifier_of}
use Rattle.mk_class.specs.declared.assignment.Flavor.{Flavor}
use Rattle.mk_class.specs.declared.assignment.Flavor.TheVariants.{Recursive, Simple, PosixSimple, Immediate, Conditional, Append, Shell}
use Rattle.mk_class.specs.declared.assignment.Modifier.{Modifier}

-- the flavor of the operator that these symbols are with a `=` after them
abbrev pub flavor_before_equals : List Symbol → Option Flavor
flavor_before_equals [] = Some Recursive
flavor_before_equals (Colon ∷ []) = Some Simple
flavor_before_equals (Colon ∷ Colon ∷ []) = Some PosixSimple
flavor_before_equals (Colon ∷ Colon ∷ Colon ∷ []) = Some Immediate
flavor_before_equals (Question ∷ []) = Some Conditional
flavor_before_equals (Plus ∷ []) = Some Append
flavor_before_equals (Exclamation ∷ []) = Some Shell
flavor_before_equals s = None

-- What stands before the `=` of an assignment: three lists of units that follow one another.
pub record Front (A : Type 0) : Type 0 where
  pub modifiers : List Modifier
  pub flavor : Flavor
  pub before : List (List A)
  pub name : List (List A)
  pub operator : List (List A)

module _ {A : Type 0} (byte : A → ℕ) where
  -- whether a name ends before these units, which a `=` follows
  abbrev pub ends_name_before_equals : List (List A) → Bool
  ends_name_before_equals [] = false
  ends_name_before_equals (u ∷ us) = is_gap byte u || ends_name_by (symbol byte u) (is_empty us)

  -- the front of a flavor, from what stands before the name, the name, and what follows the name
  abbrev pub front_by : Option Flavor → (before name operator : List (List A)) → Option (Front A)
  front_by None b n o = None
  front_by (Some f) b [] o = None
  front_by (Some f) b (u ∷ n) o =
      Some (record { modifiers = []; flavor = f; before = b; name = u ∷ n; operator = o })

  -- the front of blanks, a name, blanks, and the symbols of an operator without its `=`
  abbrev pub front_after_blanks : (before named : List (List A)) → Option (Front A)
  front_after_blanks b us =
      let rest = from ends_name_before_equals us in
      front_by (flavor_before_equals (map (symbol byte) (after_blanks byte rest))) b
      (until ends_name_before_equals us) rest

  -- the front of a definition without modifiers
  abbrev pub definition_front : List (List A) → Option (Front A)
  definition_front us = front_after_blanks (blanks byte us) (after_blanks byte us)

  -- a front with these units put before it
  abbrev pub front_after_units : List (List A) → Option (Front A) → Option (Front A)
  front_after_units us None = None
  front_after_units us (Some f) = Some (record f { before = us ++ f.before })

  -- a front with a modifier put before it
  abbrev pub front_after_modifier : Modifier → List (List A) → Option (Front A) → Option (Front A)
  front_after_modifier m w None = None
  front_after_modifier m w (Some f) =
      Some (record f { modifiers = m ∷ f.modifiers; before = w ++ f.before })

  -- the front that the words and gaps before a `=` are
  abbrev pub front_of : List (Token A) → Option (Front A)
  front_of [] = None
  front_of (Gap u ∷ ts) = front_after_units (u ∷ []) (front_of ts)
  front_of (Word w ∷ ts) =
      elim (definition_front (w ++ token_units ts)) [
        | Some f ↦ Some f
        | None ↦ elim (modifier_of byte w) [
          | Some m ↦ front_after_modifier m w (front_of ts)
          | None ↦ None
        ]
      ]

  -- an assignment from the front before its `=`, this unit, and what stands after it
  abbrev pub with_value : Option (Front A) → (equals : List A) → (rest : List (List A))
      → Option (Assignment A)
  with_value None e r = None
  with_value (Some f) e r = Some (record {
    modifiers = f.modifiers;
    flavor = f.flavor;
    before = f.before;
    name = f.name;
    operator = f.operator ++ (e ∷ blanks byte r);
    value = trim_end (is_gap byte) (after_blanks byte r);
    after = trailing (is_gap byte) (after_blanks byte r);
  })

  -- whether a unit is no `=`
  abbrev pub is_no_equals : List A → Bool
  is_no_equals u = not (is_equals byte u)

  -- an assignment from the units before its first `=` and the units from that `=` on
  abbrev pub assignment_from : (front rest : List (List A)) → Option (Assignment A)
  assignment_from b [] = None
  assignment_from b (e ∷ r) = with_value (front_of (tokens byte b)) e r

  -- the assignment that a cut text is
  abbrev pub assignment_at_equals : List (List A) → Option (Assignment A)
  assignment_at_equals us =
      assignment_from (leading is_no_equals us) (after_leading is_no_equals us)
