-- How a lookup of a variable stands to `set`, and how the line of a name or a target stands to `unset` and `unrule`.
-- Told in docs/EDITS.md, "Queries".
use Rattle.std.specs.Prelude.{◌≡◌, ℕ, true, List, Option, Ok, Err}
use Rattle.mk_class.specs.Arguments.{is_value}
use Rattle.mk_class.specs.ClassedLines.{classed_lines}
use Rattle.mk_edit_language.specs.Edits.{One, Set, OfAssign, OfRule, ChangeValue, RemoveLines}
use Rattle.mk_edit_language.specs.EditSpans.{spans_of}
use Rattle.mk_edit_language.specs.LineCauses.{too_long}
use Rattle.mk_edit_language.specs.Refusals.{spans, unless_refused}
use Rattle.mk_edit_language.specs.declared.refusal.Refusal.{Refusal}
use Rattle.mk_session.specs.Lookups.{looked_up}
use Rattle.mk_session.specs.Indices.{assignment_index, rule_index}

-- where a lookup is refused, so is `set`, for any value that it may give
abbrev pub IsRefusedAsSet : Type 0
IsRefusedAsSet = (t : List ℕ) (nth : Option ℕ) (n v : List ℕ) (r : Refusal) → is_value v ≡ true
    → looked_up t nth n ≡ Err r → spans t (ChangeValue (One nth) n (Set v)) ≡ Err r

-- where a lookup finds a value, `set` is refused for the length of the text alone, for any value that it may give
abbrev pub IsFoundWhereSet : Type 0
IsFoundWhereSet = (t : List ℕ) (nth : Option ℕ) (n v w : List ℕ) → is_value v ≡ true
    → looked_up t nth n ≡ Ok w
    → let e = ChangeValue (One nth) n (Set v) in
    let rs = spans_of t (classed_lines t) e in
    spans t e ≡ unless_refused (too_long t rs) rs

-- where no assignment is found, `unset` is refused so
abbrev pub IsRefusedAsUnset : Type 0
IsRefusedAsUnset = (t : List ℕ) (nth : Option ℕ) (n : List ℕ) (r : Refusal)
    → assignment_index t nth n ≡ Err r → spans t (RemoveLines (OfAssign nth n)) ≡ Err r

-- where no rule is found, `unrule` is refused so
abbrev pub IsRefusedAsUnrule : Type 0
IsRefusedAsUnrule = (t : List ℕ) (nth : Option ℕ) (g : List ℕ) (r : Refusal)
    → rule_index t nth g ≡ Err r → spans t (RemoveLines (OfRule nth g)) ≡ Err r
