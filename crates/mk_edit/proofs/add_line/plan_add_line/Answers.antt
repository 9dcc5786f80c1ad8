use Rattle.std.proofs.Common.{◌∙◌, sym, ap, inl}
use Rattle.mk_class.specs.RecipePrefix.{is_prefix_led}
use Rattle.mk_edit_language.specs.NewLines.{new_text}
use Rattle.mk_edit_language.specs.EditViews.{edit_of}
use Rattle.mk_edit.proofs.on_new_lines.PlaceCauses.{decided-there, placed, placed-in, split-there}
use Rattle.mk_edit.proofs.on_plans.PlanLemmas.{refused-first}
use Rattle.mk_edit.proofs.add_line.plan_add_line.Goals as goal

pub place_of_new-requires : goal.place_of_new-requires
place_of_new-requires g c = record { faithful = c.requires.faithful; meant = placed c.requires.kind c.in_ok-found.ensures.found }

pub returns-in_default : goal.returns-in_default
returns-in_default g c = refused-first _ _ _ _ (inl (split-there _ _ _ _ c.requires.kind (c.place_of_new.ensures.split c.in_default.is) c.in_ok-found.ensures.found))

pub add_line-requires-clause-decided : goal.add_line-requires-clause-decided
add_line-requires-clause-decided g c =
    let e = edit_of c.args.edit.now in
    let led = ap (λ p. is_prefix_led p (new_text p e)) (sym c.prefix.ensures) ∙ (sym c.begins_with_prefix.ensures ∙ c.if-begins_with_prefix.false) in
    decided-there _ e c.args.doc.now c.in_ok-found.found c.in-Some.place c.requires.kind (rw c.in-Some.is at c.place_of_new.ensures.unsplit) c.in_ok-found.ensures.found (placed-in c.requires.kind (rw c.in-Some.is at c.place_of_new.ensures.inserted)) led

pub add_line-requires-clause-inserted : goal.add_line-requires-clause-inserted
add_line-requires-clause-inserted g c = placed-in c.requires.kind (rw c.in-Some.is at c.place_of_new.ensures.inserted)
