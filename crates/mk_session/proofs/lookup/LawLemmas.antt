-- A lookup is refused as `set` is.
use Rattle.std.proofs.Common.{◌≡◌, refl, ap, ◌∙◌, ℕ, List, [], ◌∷◌, true, Option, Some, None}
use Rattle.std.specs.Prelude.{Ok, Err}
use Rattle.mk_class.specs.Arguments.{is_name, is_value}
use Rattle.mk_class.specs.ClassedLines.{classed_lines}
use Rattle.mk_tree.specs.LineTexts.{StandingLine}
use Rattle.mk_edit_language.specs.Edits.{One, Set, Removal, OfAssign, OfRule, ChangeValue, RemoveLines}
use Rattle.mk_edit_language.specs.EditSpans.{spans_of}
use Rattle.mk_edit_language.specs.Addresses.{Variable, Rule, found}
use Rattle.mk_edit_language.specs.ArgumentCauses.{Tested, bad_argument, first_failed, reserved}
use Rattle.mk_edit_language.specs.AddressCauses.{unread_prefix, no_such, ambiguous}
use Rattle.mk_edit_language.specs.LineCauses.{too_long}
use Rattle.mk_edit_language.specs.Refusals.{causes, first_cause, spans, unless_refused}
use Rattle.mk_edit_language.specs.declared.refusal.Field.TheVariants as field
use Rattle.mk_edit_language.specs.declared.refusal.Refusal.{Refusal}
use Rattle.mk_session.specs.Lookups.{first_causes, value_unless}
use Rattle.mk_session.specs.Indices.{index_unless}
use Rattle.mk_session.specs.LookupLaws.{IsFoundWhereSet, IsRefusedAsSet, IsRefusedAsUnset, IsRefusedAsUnrule}

-- the first of five causes is the first of more
five-first : (a b c d e : Option Refusal) (cs : List (Option Refusal)) (r : Refusal) → first_cause (a ∷ b ∷ c ∷ d ∷ e ∷ []) ≡ Some r
    → first_cause (a ∷ b ∷ c ∷ d ∷ e ∷ cs) ≡ Some r
five-first (Some x) b c d e cs r h = h
five-first None (Some x) c d e cs r h = h
five-first None None (Some x) d e cs r h = h
five-first None None None (Some x) e cs r h = h
five-first None None None None (Some x) cs r h = h
five-first None None None None None cs r h = absurd (cc)

-- if none of five holds, the others decide
five-passed : (a b c d e : Option Refusal) (cs : List (Option Refusal)) → first_cause (a ∷ b ∷ c ∷ d ∷ e ∷ []) ≡ None
    → first_cause (a ∷ b ∷ c ∷ d ∷ e ∷ cs) ≡ first_cause cs
five-passed (Some x) b c d e cs h = absurd (cc)
five-passed None (Some x) c d e cs h = absurd (cc)
five-passed None None (Some x) d e cs h = absurd (cc)
five-passed None None None (Some x) e cs h = absurd (cc)
five-passed None None None None (Some x) cs h = absurd (cc)
five-passed None None None None None cs h = refl

-- a value that `set` may give refuses nothing, as the empty one does
same-fields : (nth : Option ℕ) (n v : List ℕ) → is_value v ≡ true → bad_argument (ChangeValue (One nth) n (Set v)) ≡ bad_argument (ChangeValue (One nth) n (Set []))
same-fields nth n v h = ap (λ b. first_failed (Tested field.Name (is_name n) ∷ Tested field.Value b ∷ [])) h

-- a refusal of a lookup is that of a cause
refused-by : (o : Option Refusal) (s : Option StandingLine) (r : Refusal) → value_unless o s ≡ Err r → o ≡ Some r
refused-by None s r h = absurd (cc)
refused-by (Some x) s r h = let e : x ≡ r = cc in ap (λ z. Some z) e

found-by : (o : Option Refusal) (s : Option StandingLine) (w : List ℕ) → value_unless o s ≡ Ok w → o ≡ None
found-by None s w h = refl
found-by (Some x) s w h = absurd (cc)

-- the causes of `set` with a value, by those of the lookup
pub refused-as_set : IsRefusedAsSet
refused-as_set t nth n v r i h =
    let ls = classed_lines t in
    let e = ChangeValue (One nth) n (Set v) in
    let first : first_cause (first_causes ls (ChangeValue (One nth) n (Set []))) ≡ Some r = refused-by _ (found ls (Variable nth n)) r h in
    let same : first_cause (first_causes ls e) ≡ Some r =
    ap (λ z. first_cause (z ∷ reserved e ∷ unread_prefix ls ∷ no_such ls e ∷ ambiguous ls e ∷ [])) (same-fields nth n v i) ∙ first in
    let all : first_cause (causes t ls e) ≡ Some r = five-first (bad_argument e) (reserved e) (unread_prefix ls) (no_such ls e) (ambiguous ls e) _ r same in
    ap (λ z. unless_refused z (spans_of t ls e)) all

only-long : (o : Option Refusal) → first_cause (o ∷ None ∷ []) ≡ o
only-long None = refl
only-long (Some r) = refl

pub found-where_set : IsFoundWhereSet
found-where_set t nth n v w i h =
    let ls = classed_lines t in
    let e = ChangeValue (One nth) n (Set v) in
    let none : first_cause (first_causes ls (ChangeValue (One nth) n (Set []))) ≡ None = found-by _ (found ls (Variable nth n)) w h in
    let same : first_cause (first_causes ls e) ≡ None =
    ap (λ z. first_cause (z ∷ reserved e ∷ unread_prefix ls ∷ no_such ls e ∷ ambiguous ls e ∷ [])) (same-fields nth n v i) ∙ none in
    let long = too_long t (spans_of t ls e) in
    let all : first_cause (causes t ls e) ≡ long = five-passed (bad_argument e) (reserved e) (unread_prefix ls) (no_such ls e) (ambiguous ls e) _ same ∙ only-long long in
    ap (λ z. unless_refused z (spans_of t ls e)) all

-- ---- the index of a line

no_index-by : (o : Option Refusal) (s : Option StandingLine) (r : Refusal) → index_unless o s ≡ Err r → o ≡ Some r
no_index-by None s r h = absurd (cc)
no_index-by (Some x) s r h = let e : x ≡ r = cc in ap (λ z. Some z) e

first-refused : (t : List ℕ) (m : Removal) (s : Option StandingLine) (r : Refusal) → index_unless (first_cause (first_causes (classed_lines t) (RemoveLines m))) s ≡ Err r → spans t (RemoveLines m) ≡ Err r
first-refused t m s r h =
    let ls = classed_lines t in
    let e = RemoveLines m in
    let all : first_cause (causes t ls e) ≡ Some r =
    five-first (bad_argument e) (reserved e) (unread_prefix ls) (no_such ls e) (ambiguous ls e) _ r (no_index-by (first_cause (first_causes ls e)) s r h) in
    ap (λ z. unless_refused z (spans_of t ls e)) all

pub refused-as_unset : IsRefusedAsUnset
refused-as_unset t nth n r h = first-refused t (OfAssign nth n) (found (classed_lines t) (Variable nth n)) r h

pub refused-as_unrule : IsRefusedAsUnrule
refused-as_unrule t nth g r h = first-refused t (OfRule nth g) (found (classed_lines t) (Rule nth g)) r h
