-- The refusal of an edit, and its spans, cause by cause.
use Rattle.std.proofs.Common.{◌≡◌, sym, ap, ◌∙◌, subst, ℕ, List, ◌∷◌, Option, Some, None}
use Rattle.std.specs.Prelude.{Result, Ok, Err, IfErr, IsErrAnd}
use Rattle.mk_class.specs.ClassedLines.{classed_lines}
use Rattle.mk_edit_language.specs.Edits.{Edit}
use Rattle.mk_edit_language.specs.EditSpans.{spans_of}
use Rattle.mk_edit_language.specs.Refusals.{first_cause, unless_refused, causes, spans}
use Rattle.mk_edit_language.specs.declared.refusal.Refusal.{Refusal}

-- a cause that does not hold is passed over, and the first that holds is answered
pub passed : (o : Option Refusal) (cs : List (Option Refusal)) (r : Option Refusal) → o ≡ None → first_cause cs ≡ r → first_cause (o ∷ cs) ≡ r
passed o cs r h k = ap (λ z. first_cause (z ∷ cs)) h ∙ k

pub holds : (o : Option Refusal) (cs : List (Option Refusal)) (r : Refusal) → o ≡ Some r → first_cause (o ∷ cs) ≡ Some r
holds o cs r h = ap (λ z. first_cause (z ∷ cs)) h

-- the edit is refused for the first cause that holds
pub refused : (t : List ℕ) (e : Edit) (r : Refusal) → first_cause (causes t (classed_lines t) e) ≡ Some r → spans t e ≡ Err r
refused t e r h = ap (λ z. unless_refused z (spans_of t (classed_lines t) e)) h

-- or has its spans
pub unrefused : (t : List ℕ) (e : Edit) → first_cause (causes t (classed_lines t) e) ≡ None → spans t e ≡ Ok (spans_of t (classed_lines t) e)
unrefused t e h = ap (λ z. unless_refused z (spans_of t (classed_lines t) e)) h

-- what holds of an error holds of it where `?` answers it
pub of-error : {T E : Type 0} (P : E → Type 0) (r : Result T E) (e : E) → IsErrAnd r (λ y. y ≡ e) → P e → IfErr r P
of-error P (Ok x) e h p = absurd h
of-error P (Err y) e h p = subst P (sym h) p
