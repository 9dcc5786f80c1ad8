use Rattle.std.proofs.Common.{◌∙◌, refl, ap, sym, subst, [], ◌∷◌, map, take, arith}
use Rattle.std.specs.Prelude.{is_ok}
use Rattle.std.proofs.lemmas.List.{length-map}
use Rattle.mk_tree.specs.Counting.{AreCounted}
use Rattle.mk_edit_language.specs.EditViews.{edit_of}
use Rattle.mk_session.specs.Groups.{costs_in_turn}
use Rattle.mk_session.specs.StoredSessions.{IsStored, shown_stored}
use Rattle.mk_session.proofs.on_sessions.StepLemmas.{text-shown}
use Rattle.mk_session.proofs.on_sessions.StoredLemmas.{some-if-counted, none-if-counted}
use Rattle.mk_session.proofs.on_sessions.GroupLemmas.{none-counted, group-step, group-of_none, group-open, group-refused}
use Rattle.mk_session.proofs.session.Session.dry_run.Goals as goal

pub returns-then-has_open_group-clause-refused : goal.returns-then-has_open_group-clause-refused
returns-then-has_open_group-clause-refused g c = group-open (map edit_of c.args.edits.now) c.args.self.now.shown (sym c.if-has_open_group.ensures)

pub make_all-requires-clause-some : goal.make_all-requires-clause-some
make_all-requires-clause-some g c = some-if-counted c.args.edits.now c.if-is_empty.ensures

pub returns-in-Err-clause-refused : goal.returns-in-Err-clause-refused
returns-in-Err-clause-refused g c =
    group-refused (map edit_of c.args.edits.now) c.self.inside.history c.self.inside.group c.self.inside.doc c.args.self.now.shown c.in-Err.refused.0 c.in-Err.refused.1
    (ap (λ s. s.shown) c.self.view_is) (sym c.if-has_open_group.ensures) c.in-Err.ensures.refused

pub returns-in-Err-clause-few_read : goal.returns-in-Err-clause-few_read
returns-in-Err-clause-few_read g c =
    let text = text-shown c.self.inside.history c.self.inside.group c.self.inside.doc c.args.self.now.shown (ap (λ s. s.shown) c.self.view_is) in
    omega (arith, c.make_all.ensures.few_read, ap (λ s. s.rereads) c.self.view_is, ap (costs_in_turn (map edit_of c.args.edits.now)) text)

pub take_back-requires : goal.take_back-requires
take_back-requires g c = c.in-Ok.ensures.made.fits_back

pub invariant_of-self-2 : goal.invariant_of-self-2
invariant_of-self-2 g c = subst (IsStored c.self.inside.history c.self.inside.group) (sym (c.take_back.ensures ∙ c.in-Ok.ensures.made.leads_back)) c.self.invariant

pub returns-clause-same : goal.returns-clause-same
returns-clause-same g c =
    ap (shown_stored c.self.inside.history c.self.inside.group) (c.take_back.ensures ∙ c.in-Ok.ensures.made.leads_back) ∙ ap (λ s. s.shown) c.self.view_is

pub returns-clause-granted : goal.returns-clause-granted
returns-clause-granted g c =
    let h = c.self.inside.history in
    ap is_ok
    (group-step (map edit_of c.args.edits.now) h (record h { done = take h.depth (c.in-Ok.back ∷ h.done); undone = [] }) c.self.inside.group c.in-Ok.back c.self.inside.doc c.make_all.new.doc c.args.self.now.shown
    (ap (λ s. s.shown) c.self.view_is) (sym c.if-has_open_group.ensures) (omega (arith, length-map c.args.edits.now edit_of, some-if-counted c.args.edits.now c.if-is_empty.ensures)) c.in-Ok.ensures.made refl)

pub returns-clause-counted : goal.returns-clause-counted
returns-clause-counted g c =
    let text = text-shown c.self.inside.history c.self.inside.group c.self.inside.doc c.args.self.now.shown (ap (λ s. s.shown) c.self.view_is) in
    omega (arith, c.in-Ok.ensures.counted, ap (λ s. s.rereads) c.self.view_is, ap (costs_in_turn (map edit_of c.args.edits.now)) text)

pub returns-clause-few_read : goal.returns-clause-few_read
returns-clause-few_read g c =
    let text = text-shown c.self.inside.history c.self.inside.group c.self.inside.doc c.args.self.now.shown (ap (λ s. s.shown) c.self.view_is) in
    omega (arith, c.make_all.ensures.few_read, ap (λ s. s.rereads) c.self.view_is, ap (costs_in_turn (map edit_of c.args.edits.now)) text)

pub returns-then-is_empty-clause-counted : goal.returns-then-is_empty-clause-counted
returns-then-is_empty-clause-counted g c =
    let s = c.args.self.now in
    subst (λ es. AreCounted s.rereads (costs_in_turn (map edit_of es) s.shown.text) s.rereads) (sym (none-if-counted c.args.edits.now c.if-is_empty.ensures)) (none-counted s.rereads)

pub returns-then-is_empty-clause-granted : goal.returns-then-is_empty-clause-granted
returns-then-is_empty-clause-granted g c =
    ap is_ok
    (group-of_none (map edit_of c.args.edits.now) c.self.inside.history c.self.inside.group c.self.inside.doc c.args.self.now.shown (ap (map edit_of) (none-if-counted c.args.edits.now c.if-is_empty.ensures)) (ap (λ s. s.shown) c.self.view_is)
    (sym c.if-has_open_group.ensures))
