use Rattle.std.proofs.Common.{◌≡◌, ◌∷◌, sym, ap, ◌∙◌, subst, Option}
use Rattle.mk_edit_language.specs.EditViews.{edit_of}
use Rattle.mk_patch.specs.Moves.{after_moves}
use Rattle.mk_session.specs.StoredSessions.{Patches, IsStored, after_patches}
use Rattle.mk_session.proofs.on_sessions.StoredLemmas.{FitPatches, stored-alone}
use Rattle.mk_session.proofs.on_sessions.StepLemmas.{alone-step, grouped-step, edit-refused, memory-refused}
use Rattle.mk_session.proofs.session.Session.apply.Goals as goal

pub returns-in-Err-clause-refused : goal.returns-in-Err-clause-refused
returns-in-Err-clause-refused g c =
    edit-refused (edit_of c.args.edit.now) c.self.inside.history c.self.inside.group c.self.inside.doc c.args.self.now.shown c.in-Err.refusal (ap (λ s. s.shown) c.self.view_is) c.in-Err.ensures.plans.refused

pub returns-then-is_err-clause-refused : goal.returns-then-is_err-clause-refused
returns-then-is_err-clause-refused g c =
    memory-refused (edit_of c.args.edit.now) c.self.inside.history c.self.inside.group c.self.inside.doc c.args.self.now.shown c.in-Ok.patch (ap (λ s. s.shown) c.self.view_is) c.in-Ok.ensures.plans.planned

pub returns-in_default-clause-refused : goal.returns-in_default-clause-refused
returns-in_default-clause-refused g c =
    memory-refused (edit_of c.args.edit.now) c.self.inside.history c.self.inside.group c.self.inside.doc c.args.self.now.shown c.in-Ok.patch (ap (λ s. s.shown) c.self.view_is) c.in-Ok.ensures.plans.planned

pub invariant_of-self-in-None : goal.invariant_of-self-in-None
invariant_of-self-in-None g c =
    let same = c.planned.ensures.same in
    let member = c.push_front-in-None.new.self in
    let planned = c.in-Ok.ensures.plans.planned in
    let k = subst (λ (o : Option Patches). IsStored c.self.inside.history o c.self.inside.doc) (sym c.in-None.ensures.value) c.self.invariant in
    let fits : FitPatches member c.make_planned-in-None.new.self = rw (c.push_front-in-None.ensures, c.in-Ok-with_capacity.ensures) (c.make_planned-in-None.ensures.fits_back, tt) in
    let back : after_patches member c.make_planned-in-None.new.self ≡ c.self.inside.doc = rw (c.push_front-in-None.ensures, c.in-Ok-with_capacity.ensures) (c.make_planned-in-None.ensures.leads_back ∙ same) in
    rw (c.push.ensures, c.take.ensures.after) (stored-alone c.self.inside.history member c.self.inside.doc c.make_planned-in-None.new.self k (rw (c.make_planned-in-None.ensures.after ∙ ap (after_moves c.in-Ok.patch) same) planned.faithful) fits back)

pub returns-else-is_err-clause-done : goal.returns-else-is_err-clause-done
returns-else-is_err-clause-done g c =
    let same = c.planned.ensures.same in
    let put : c.push_front.new.self.changes ≡ c.make_planned.result ∷ c.in-Some.group.changes = ap (λ p. p.changes) c.push_front.ensures ∙ ap (λ cs. c.make_planned.result ∷ cs) c.reserve.ensures.changes in
    grouped-step (edit_of c.args.edit.now) c.self.inside.history c.forget.new.self c.self.inside.group c.in-Some.group c.push_front.new.self c.in-Ok.patch c.make_planned.result c.self.inside.doc c.make_planned.new.self c.args.self.now.shown
    (ap (λ s. s.shown) c.self.view_is) (sym c.in-Some.ensures.value) c.in-Ok.ensures.plans.planned (c.make_planned.ensures.after ∙ ap (after_moves c.in-Ok.patch) same) (c.make_planned.ensures.leads_back ∙ same) put c.forget.ensures

pub returns-in-Ok-with_capacity-clause-done : goal.returns-in-Ok-with_capacity-clause-done
returns-in-Ok-with_capacity-clause-done g c =
    let same = c.planned.ensures.same in
    let member = c.push_front-in-None.new.self in
    let back : after_patches member c.make_planned-in-None.new.self ≡ c.self.inside.doc = rw (c.push_front-in-None.ensures, c.in-Ok-with_capacity.ensures) (c.make_planned-in-None.ensures.leads_back ∙ same) in
    alone-step (edit_of c.args.edit.now) c.self.inside.history c.push.new.self c.self.inside.group c.take.new.self member c.in-Ok.patch c.self.inside.doc c.make_planned-in-None.new.self c.args.self.now.shown
    (ap (λ s. s.shown) c.self.view_is) (sym c.in-None.ensures.value) c.take.ensures.after c.in-Ok.ensures.plans.planned (c.make_planned-in-None.ensures.after ∙ ap (after_moves c.in-Ok.patch) same) back c.push.ensures
