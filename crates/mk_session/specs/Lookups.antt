-- What a lookup of a variable answers: the value of the assignment that `set` takes, or the refusal that `set` has for
-- its name or its line.
-- Told in docs/EDITS.md, "Queries".
use Rattle.std.specs.Prelude.{ℕ, List, [], ◌∷◌, Option, Some, None, Result, Ok, Err}
use Rattle.mk_lines.specs.Cells.{Cell, joined_byte}
use Rattle.mk_class.specs.Texts.{unit_text}
use Rattle.mk_class.specs.Classes.{Class}
use Rattle.mk_class.specs.Classes.Class.{Assign}
use Rattle.mk_class.specs.ClassedLines.{ClassedLine, classed_lines}
use Rattle.mk_tree.specs.LineTexts.{StandingLine}
use Rattle.mk_edit_language.specs.Edits.{One, Set, Edit, ChangeValue}
use Rattle.mk_edit_language.specs.Addresses.{Variable, found}
use Rattle.mk_edit_language.specs.ArgumentCauses.{bad_argument, reserved}
use Rattle.mk_edit_language.specs.AddressCauses.{unread_prefix, no_such, ambiguous}
use Rattle.mk_edit_language.specs.Refusals.{first_cause}
use Rattle.mk_edit_language.specs.declared.refusal.Refusal.{Refusal}

-- the value of an assignment, with a space for each fold; any other line has none
abbrev pub value_of : Class Cell → List ℕ
value_of (Assign a p) = unit_text joined_byte a.value
value_of k = []

abbrev pub value_at : Option StandingLine → List ℕ
value_at None = []
value_at (Some s) = value_of s.line.class

-- the causes that come before an edit's own, in their order: those of its fields, and of the line that it means
abbrev pub first_causes : List ClassedLine → Edit → List (Option Refusal)
first_causes ls e =
    bad_argument e ∷ reserved e ∷ unread_prefix ls ∷ no_such ls e ∷ ambiguous ls e ∷ []

-- the refusal, if there is one, and otherwise the value of the line that is found
abbrev pub value_unless : Option Refusal → Option StandingLine → Result (List ℕ) Refusal
value_unless (Some r) s = Err r
value_unless None s = Ok (value_at s)

-- The value of the assignment that `set` takes. `set` is taken here with the empty value, for which no value is refused.
abbrev pub looked_up : (text : List ℕ) → (nth : Option ℕ) → (name : List ℕ) → Result (List ℕ) Refusal
looked_up t nth n =
    let ls = classed_lines t in
    value_unless (first_cause (first_causes ls (ChangeValue (One nth) n (Set [])))) (found ls (Variable nth n))
