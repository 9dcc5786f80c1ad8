-- Where the line of a name or a target stands: its index, or the refusal that `unset` or `unrule` has for the name, the
-- target or the line.
-- Told in docs/LIBRARY.md, "Walking over a makefile".
use Rattle.std.specs.Prelude.{ℕ, List, length, Option, Some, None, Result, Ok, Err}
use Rattle.mk_class.specs.ClassedLines.{classed_lines}
use Rattle.mk_tree.specs.LineTexts.{StandingLine}
use Rattle.mk_edit_language.specs.Edits.{OfAssign, OfRule, RemoveLines}
use Rattle.mk_edit_language.specs.Addresses.{Variable, Rule, found}
use Rattle.mk_edit_language.specs.Refusals.{first_cause}
use Rattle.mk_edit_language.specs.declared.refusal.Refusal.{Refusal}
use Rattle.mk_session.specs.Lookups.{first_causes}

-- how many lines stand above the line
abbrev index_of : Option StandingLine → ℕ
index_of None = 0
index_of (Some s) = length s.above

-- the refusal, if there is one, and otherwise the index of the line that is found
abbrev pub index_unless : Option Refusal → Option StandingLine → Result ℕ Refusal
index_unless (Some r) s = Err r
index_unless None s = Ok (index_of s)

-- The index of the assignment that an edit of this name and this number takes. `unset` stands here for these edits: it has
-- no field but its name.
abbrev pub assignment_index : (text : List ℕ) → (nth : Option ℕ) → (name : List ℕ) → Result ℕ Refusal
assignment_index t nth n =
    let ls = classed_lines t in
    index_unless (first_cause (first_causes ls (RemoveLines (OfAssign nth n)))) (found ls (Variable nth n))

-- The index of the line of the rule that an edit of this target and this number takes. `unrule` stands here for these
-- edits: it has no field but its target.
abbrev pub rule_index : (text : List ℕ) → (nth : Option ℕ) → (target : List ℕ) → Result ℕ Refusal
rule_index t nth g =
    let ls = classed_lines t in
    index_unless (first_cause (first_causes ls (RemoveLines (OfRule nth g)))) (found ls (Rule nth g))
