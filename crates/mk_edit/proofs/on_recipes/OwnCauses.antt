-- An edit is refused by the first of its own causes, or has its spans.
use Rattle.std.proofs.Common.{◌≡◌, List, Some, None}
use Rattle.std.specs.Prelude.{Ok, Err}
use Rattle.mk_class.specs.ClassedLines.{classed_lines}
use Rattle.mk_tree.specs.LocatedLines.{LocatedLine, located_text}
use Rattle.mk_edit_language.specs.Edits.{Edit}
use Rattle.mk_edit_language.specs.EditSpans.{spans_of}
use Rattle.mk_edit_language.specs.LineCauses.{misread}
use Rattle.mk_edit_language.specs.Refusals.{first_cause, spans}
use Rattle.mk_edit_language.specs.declared.refusal.Refusal.{Refusal}
use Rattle.mk_edit_parts.specs.Found.{IsAddressed}
use Rattle.mk_edit_parts.specs.declared.seek.Found.{Found}
use Rattle.mk_edit_parts.proofs.CauseLemmas.{refused, unrefused}
use Rattle.mk_edit.proofs.on_plans.CausePlans.{own_causes, addressed-own, addressed-first}

-- the first of them that holds is the refusal
pub own-refused : (e : Edit) (ls : List LocatedLine) (f : Found) (r : Refusal) → IsAddressed e ls f → first_cause (own_causes (located_text ls) (classed_lines (located_text ls)) e) ≡ Some r → spans (located_text ls) e ≡ Err r
own-refused e ls f r A h = refused (located_text ls) e r (addressed-first e ls f r A h)

-- if none of the edit's own causes holds, the edit has its spans
pub own-accepted : (e : Edit) (ls : List LocatedLine) (f : Found) → IsAddressed e ls f → misread (classed_lines (located_text ls)) e ≡ None → first_cause (own_causes (located_text ls) (classed_lines (located_text ls)) e) ≡ None
    → spans (located_text ls) e ≡ Ok (spans_of (located_text ls) (classed_lines (located_text ls)) e)
own-accepted e ls f A m h = unrefused (located_text ls) e (addressed-own e ls f None A m h)
