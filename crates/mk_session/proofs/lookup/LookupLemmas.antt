-- What a lookup answers, by its tests and by the line that is found.
use Rattle.std.proofs.Common.{◌≡◌, refl, sym, ap, ◌∙◌, subst, ℕ, List, [], ◌∷◌, true, false, ◌||◌, Option, Some, None}
use Rattle.std.specs.Prelude.{Ok, slice_get}
use Rattle.mk_lines.specs.Cells.{Cell, joined_byte, joined_text, line_cells}
use Rattle.mk_class.specs.Arguments.{is_name, is_value}
use Rattle.mk_class.specs.Classes.{Class}
use Rattle.mk_class.specs.Classes.Class.{Endef, Body, Recipe, Opaque, Blank, Comment, Assign, DefineHead, If, Else, Endif, Directive, TargetAssign, Rough, Header}
use Rattle.mk_class.specs.ClassTable.{class_of}
use Rattle.mk_class.specs.ClassedLines.{classed_lines}
use Rattle.mk_class.specs.Contexts.{Context}
use Rattle.mk_class.specs.LocatedClasses.{located_class}
use Rattle.mk_class.specs.RecipePrefix.{is_prefix_name}
use Rattle.mk_tree.specs.Documents.{IsFaithful}
use Rattle.mk_tree.specs.LocatedLines.{LocatedLine, located_line, located_text}
use Rattle.mk_edit_language.specs.Edits.{One, Set, ChangeValue}
use Rattle.mk_edit_language.specs.Addresses.{Variable, found}
use Rattle.mk_edit_language.specs.AddressCauses.{unread_prefix, no_such, ambiguous}
use Rattle.mk_edit_language.specs.ArgumentCauses.{Tested, bad_argument, first_failed, reserved}
use Rattle.mk_edit_language.specs.Causes.{where_holds}
use Rattle.mk_edit_language.specs.Refusals.{first_cause}
use Rattle.mk_edit_language.specs.declared.refusal.Field.TheVariants as field
use Rattle.mk_edit_language.specs.declared.refusal.Refusal.{Refusal}
use Rattle.mk_edit_language.specs.declared.refusal.Refusal.TheVariants.{Reserved}
use Rattle.mk_edit_parts.specs.Found.{IsFoundAt, IsPicked}
use Rattle.mk_edit_parts.specs.declared.seek.Found.{Found}
use Rattle.mk_edit_parts.proofs.CauseLemmas.{passed}
use Rattle.mk_edit_parts.proofs.on_finding.PlaceLemmas.{line-at}
use Rattle.mk_tree.specs.Views.{assignment_in, assignment_of}
use Rattle.mk_tree.specs.ViewLaws.{AssignmentsAreSeen, SeesAssignment}
use Rattle.mk_session.specs.Lookups.{first_causes, looked_up, value_at, value_of, value_unless}
use Rattle.mk_session.specs.ValuesSeen.{value_seen}

-- ---- the value of a line

-- the value that a line shows is that of its class
shown-of_class : (l : List ℕ) (k : Class Cell) → SeesAssignment k (assignment_in (joined_text (line_cells l)) (located_class joined_byte k))
    → value_seen (assignment_in (joined_text (line_cells l)) (located_class joined_byte k)) ≡ value_of k
shown-of_class l (Assign a p) h = h.value
shown-of_class l Endef h = refl
shown-of_class l (Body n) h = refl
shown-of_class l Recipe h = refl
shown-of_class l Opaque h = refl
shown-of_class l Blank h = refl
shown-of_class l Comment h = refl
shown-of_class l (DefineHead p) h = refl
shown-of_class l If h = refl
shown-of_class l Else h = refl
shown-of_class l Endif h = refl
shown-of_class l Directive h = refl
shown-of_class l (TargetAssign t) h = refl
shown-of_class l Rough h = refl
shown-of_class l (Header x) h = refl

value-shown : AssignmentsAreSeen → (c : Context) (l : List ℕ) (k : Class Cell) → class_of c l ≡ k → value_seen (assignment_in (joined_text (line_cells l)) (located_class joined_byte k)) ≡ value_of k
value-shown seen c l k e =
    subst (λ z. value_seen (assignment_in (joined_text (line_cells l)) (located_class joined_byte z)) ≡ value_of z) e
    (shown-of_class l (class_of c l) (seen c l))

-- the value of the line that an address means is what the document shows at its place
value-found : AssignmentsAreSeen → (ls : List LocatedLine) (nth : Option ℕ) (n : List ℕ) (f : Found) (l : LocatedLine) → IsFaithful ls
    → IsFoundAt (classed_lines (located_text ls)) (Variable nth n) f → Some l ≡ slice_get ls f.at
    → value_at (found (classed_lines (located_text ls)) (Variable nth n)) ≡ value_seen (assignment_of l)
value-found seen ls nth n f l h F k =
    let s = F.spot in
    let L = line-at ls (Variable nth n) f h F in
    let shown : Some l ≡ Some (located_line s.line) = k ∙ L.line_is in
    let line_is : l ≡ located_line s.line = cc in
    ap value_at F.found_is
    ∙ (sym (value-shown seen f.context s.line.bytes s.line.class L.class_is) ∙ sym (ap (λ (z : LocatedLine). value_seen (assignment_of z)) line_is))

-- ---- the causes

-- a lookup answers the value of the line that is found, if no cause holds
lookup-found : (t : List ℕ) (nth : Option ℕ) (n : List ℕ) → first_cause (first_causes (classed_lines t) (ChangeValue (One nth) n (Set []))) ≡ None
    → looked_up t nth n ≡ Ok (value_at (found (classed_lines t) (Variable nth n)))
lookup-found t nth n h = ap (λ z. value_unless z (found (classed_lines t) (Variable nth n))) h

name-passed : (nth : Option ℕ) (n : List ℕ) → is_name n ≡ true → bad_argument (ChangeValue (One nth) n (Set [])) ≡ None
name-passed nth n h = ap (λ z. first_failed (Tested field.Name z ∷ Tested field.Value (is_value []) ∷ [])) h

name-free : (nth : Option ℕ) (n : List ℕ) → is_prefix_name n ≡ false → reserved (ChangeValue (One nth) n (Set [])) ≡ None
name-free nth n h = ap (λ z. where_holds ((z || false) || false) Reserved) h

-- the name passes both of its tests
pub record IsNamed (n : List ℕ) : Type 0 where
  pub name : is_name n ≡ true
  pub free : is_prefix_name n ≡ false

causes-of_line : (t : List ℕ) (nth : Option ℕ) (n : List ℕ) (r : Option Refusal) → IsNamed n
    → first_cause (unread_prefix (classed_lines t) ∷ no_such (classed_lines t) (ChangeValue (One nth) n (Set [])) ∷ ambiguous (classed_lines t) (ChangeValue (One nth) n (Set [])) ∷ []) ≡ r
    → first_cause (first_causes (classed_lines t) (ChangeValue (One nth) n (Set []))) ≡ r
causes-of_line t nth n r N h =
    let e = ChangeValue (One nth) n (Set []) in
    passed (bad_argument e) _ r (name-passed nth n N.name) (passed (reserved e) _ r (name-free nth n N.free) h)

-- the value of a line that is the one that is meant
pub value-looked_up : AssignmentsAreSeen → (ls : List LocatedLine) (nth : Option ℕ) (n : List ℕ) (f : Found) (l : LocatedLine) → IsFaithful ls → IsNamed n
    → unread_prefix (classed_lines (located_text ls)) ≡ None → IsPicked (classed_lines (located_text ls)) (Some (Variable nth n)) f → Some l ≡ slice_get ls f.at
    → looked_up (located_text ls) nth n ≡ Ok (value_seen (assignment_of l))
value-looked_up seen ls nth n f l h N u P k =
    let t = located_text ls in
    let cs = classed_lines t in
    let e = ChangeValue (One nth) n (Set []) in
    let none : first_cause (first_causes cs e) ≡ None =
    causes-of_line t nth n None N (passed (unread_prefix cs) _ None u (passed (no_such cs e) _ None P.is_there (passed (ambiguous cs e) [] None P.is_one refl))) in
    lookup-found t nth n none ∙ ap (λ v. Ok v) (value-found seen ls nth n f l h P.meant k)
