-- Assignments among the units of a cut text: modifiers, a name, an operator and a value.
-- Told in docs/LANGUAGE.md, chapter 2.
use Rattle.std.specs.Prelude.{ℕ, if◌then◌else◌, Bool, true, false, ◌||◌, List, [], ◌∷◌, ◌++◌, map, take, drop, Option, Some, None, codes}
use Rattle.std.specs.Str.{bytes_eq}
use Rattle.mk_lines.specs.Lists.{leading, after_leading, trim_end, trailing}
use Rattle.mk_lines.specs.Words.{Token, Gap, Word, tokens, token_units, is_gap}
use Rattle.mk_class.specs.ListTests.{until, from, first_passes}
use Rattle.mk_class.specs.Texts.{unit_text}
use Rattle.mk_class.specs.Symbols.{Symbol, Colon, Semicolon, Equals, Plus, Question, Exclamation, symbol, is_equals}
use Rattle.mk_class.specs.declared.assignment.Flavor.{Flavor}
use Rattle.mk_class.specs.declared.assignment.Flavor.TheVariants.{Recursive, Simple, PosixSimple, Immediate, Conditional, Append, Shell}
use Rattle.mk_class.specs.declared.assignment.Modifier.{Modifier}
use Rattle.mk_class.specs.declared.assignment.Modifier.TheVariants.{Override, Export, Private}

-- ---- operators

-- the longest operator that stands at the front of some symbols
abbrev pub operator_at : List Symbol → Option Flavor
operator_at (Colon ∷ Colon ∷ Colon ∷ Equals ∷ s) = Some Immediate
operator_at (Colon ∷ Colon ∷ Equals ∷ s) = Some PosixSimple
operator_at (Colon ∷ Equals ∷ s) = Some Simple
operator_at (Question ∷ Equals ∷ s) = Some Conditional
operator_at (Plus ∷ Equals ∷ s) = Some Append
operator_at (Exclamation ∷ Equals ∷ s) = Some Shell
operator_at (Equals ∷ s) = Some Recursive
operator_at s = None

-- how many bytes the operator of a flavor has
abbrev pub operator_length : Flavor → ℕ
operator_length Recursive = 1
operator_length Simple = 2
operator_length PosixSimple = 3
operator_length Immediate = 4
operator_length Conditional = 2
operator_length Append = 2
operator_length Shell = 2

-- ---- definitions

-- whether a symbol ends a name; `equals` says whether a `=` follows the symbol
abbrev pub ends_name_by : Symbol → (equals : Bool) → Bool
ends_name_by Colon e = true
ends_name_by Equals e = true
ends_name_by Semicolon e = true
ends_name_by Plus e = e
ends_name_by Question e = e
ends_name_by Exclamation e = e
ends_name_by s e = false

-- An assignment. Its five lists of units follow one another and are the cut text: the units before
-- the name, the name, the operator with the blanks around it, the value, and the blanks after the
-- value.
pub record Assignment (A : Type 0) : Type 0 where
  pub modifiers : List Modifier
  pub flavor : Flavor
  pub before : List (List A)
  pub name : List (List A)
  pub operator : List (List A)
  pub value : List (List A)
  pub after : List (List A)

module _ {A : Type 0} (byte : A → ℕ) where
  -- whether a name ends before these units: at a blank, `:`, `=` or `;`, or at `+`, `?` or `!` with
  -- a `=` after it
  abbrev pub ends_name : List (List A) → Bool
  ends_name [] = false
  ends_name (u ∷ us) =
      is_gap byte u || ends_name_by (symbol byte u) (first_passes (is_equals byte) us)

  -- what stands after the blanks at the front of some units
  abbrev pub after_blanks : List (List A) → List (List A)
  after_blanks us = after_leading (is_gap byte) us

  -- the blanks at the front of some units
  abbrev pub blanks : List (List A) → List (List A)
  blanks us = leading (is_gap byte) us

  -- a definition without modifiers, from its blanks, its name, the blanks after the name, and an
  -- operator with what follows it
  abbrev pub defined_by : Option Flavor → (before name gap rest : List (List A))
      → Option (Assignment A)
  defined_by None b n g r = None
  defined_by (Some f) b [] g r = None
  defined_by (Some f) b (u ∷ n) g r = Some (record {
    modifiers = [];
    flavor = f;
    before = b;
    name = u ∷ n;
    operator = g ++ (take (operator_length f) r ++ blanks (drop (operator_length f) r));
    value = trim_end (is_gap byte) (after_blanks (drop (operator_length f) r));
    after = trailing (is_gap byte) (after_blanks (drop (operator_length f) r));
  })

  -- a definition without modifiers: blanks, a name, blanks, and the operator that stands there
  abbrev pub definition_of : (before named : List (List A)) → Option (Assignment A)
  definition_of b us =
      let rest = from ends_name us in
      defined_by (operator_at (map (symbol byte) (after_blanks rest))) b (until ends_name us)
      (blanks rest) (after_blanks rest)

  -- a definition: blanks, a name that is not empty, blanks, the longest operator that stands there,
  -- blanks, and a value
  abbrev pub definition : List (List A) → Option (Assignment A)
  definition us = definition_of (blanks us) (after_blanks us)

  -- ---- modifiers

  -- the modifier that a word is
  abbrev pub modifier_of : List (List A) → Option Modifier
  modifier_of w =
      if bytes_eq (unit_text byte w) (codes "override") then Some Override else
      if bytes_eq (unit_text byte w) (codes "export") then Some Export else
      if bytes_eq (unit_text byte w) (codes "private") then Some Private else
      None

  -- an assignment with these units put before it
  abbrev pub after_units : List (List A) → Option (Assignment A) → Option (Assignment A)
  after_units us None = None
  after_units us (Some a) = Some (record a { before = us ++ a.before })

  -- an assignment with a modifier put before it
  abbrev pub after_modifier : Modifier → List (List A) → Option (Assignment A)
      → Option (Assignment A)
  after_modifier m w None = None
  after_modifier m w (Some a) =
      Some (record a { modifiers = m ∷ a.modifiers; before = w ++ a.before })

  -- the assignment that words and gaps are: they are a definition; or the first word is a modifier,
  -- and what follows it is an assignment
  abbrev pub assignment_of : List (Token A) → Option (Assignment A)
  assignment_of [] = None
  assignment_of (Gap u ∷ ts) = after_units (u ∷ []) (assignment_of ts)
  assignment_of (Word w ∷ ts) =
      elim (definition (w ++ token_units ts)) [
        | Some a ↦ Some a
        | None ↦ elim (modifier_of w) [
          | Some m ↦ after_modifier m w (assignment_of ts)
          | None ↦ None
        ]
      ]

  -- the assignment that a cut text is
  abbrev pub assignment : List (List A) → Option (Assignment A)
  assignment us = assignment_of (tokens byte us)

-- the units before the value of an assignment
abbrev pub before_value : {A : Type 0} → Assignment A → List (List A)
before_value a = a.before ++ (a.name ++ a.operator)
