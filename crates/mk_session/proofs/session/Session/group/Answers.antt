use Rattle.std.proofs.Common.{ap, sym, subst, map, arith}
use Rattle.std.proofs.lemmas.List.{length-map}
use Rattle.mk_tree.specs.Counting.{AreCounted}
use Rattle.mk_edit_language.specs.EditViews.{edit_of}
use Rattle.mk_session.specs.Groups.{costs_in_turn}
use Rattle.mk_session.proofs.on_sessions.StepLemmas.{text-shown}
use Rattle.mk_session.proofs.on_sessions.StoredLemmas.{some-if-counted, none-if-counted}
use Rattle.mk_session.proofs.on_sessions.GroupLemmas.{none-counted, group-step, group-of_none, group-open, group-stored, group-refused}
use Rattle.mk_session.proofs.session.Session.group.Goals as goal

pub returns-then-has_open_group-clause-refused : goal.returns-then-has_open_group-clause-refused
returns-then-has_open_group-clause-refused g c = group-open (map edit_of c.args.edits.now) c.args.self.now.shown (sym c.if-has_open_group.ensures)

pub make_all-requires-clause-some : goal.make_all-requires-clause-some
make_all-requires-clause-some g c = some-if-counted c.args.edits.now c.if-is_empty.ensures

pub returns-in-Err-clause-refused : goal.returns-in-Err-clause-refused
returns-in-Err-clause-refused g c =
    group-refused (map edit_of c.args.edits.now) c.self.inside.history c.self.inside.group c.self.inside.doc c.args.self.now.shown c.in-Err.refused.0 c.in-Err.refused.1
    (ap (λ s. s.shown) c.self.view_is) (sym c.if-has_open_group.ensures) c.in-Err.ensures.refused

pub returns-in-Err-clause-few_read : goal.returns-in-Err-clause-few_read
returns-in-Err-clause-few_read g c =
    let text = text-shown c.self.inside.history c.self.inside.group c.self.inside.doc c.args.self.now.shown (ap (λ s. s.shown) c.self.view_is) in
    omega (arith, c.make_all.ensures.few_read, ap (λ s. s.rereads) c.self.view_is, ap (costs_in_turn (map edit_of c.args.edits.now)) text)

pub invariant_of-self-2 : goal.invariant_of-self-2
invariant_of-self-2 g c =
    group-stored (map edit_of c.args.edits.now) c.self.inside.history c.push.new.self c.self.inside.group c.in-Ok.back c.self.inside.doc c.make_all.new.doc c.args.self.now.shown
    (ap (λ s. s.shown) c.self.view_is) (sym c.if-has_open_group.ensures) c.self.invariant c.in-Ok.ensures.made c.push.ensures

pub returns-clause-done : goal.returns-clause-done
returns-clause-done g c =
    group-step (map edit_of c.args.edits.now) c.self.inside.history c.push.new.self c.self.inside.group c.in-Ok.back c.self.inside.doc c.make_all.new.doc c.args.self.now.shown
    (ap (λ s. s.shown) c.self.view_is) (sym c.if-has_open_group.ensures) (omega (arith, length-map c.args.edits.now edit_of, some-if-counted c.args.edits.now c.if-is_empty.ensures)) c.in-Ok.ensures.made c.push.ensures

pub returns-clause-counted : goal.returns-clause-counted
returns-clause-counted g c =
    let text = text-shown c.self.inside.history c.self.inside.group c.self.inside.doc c.args.self.now.shown (ap (λ s. s.shown) c.self.view_is) in
    omega (arith, c.in-Ok.ensures.counted, ap (λ s. s.rereads) c.self.view_is, ap (costs_in_turn (map edit_of c.args.edits.now)) text)

pub returns-clause-few_read : goal.returns-clause-few_read
returns-clause-few_read g c =
    let text = text-shown c.self.inside.history c.self.inside.group c.self.inside.doc c.args.self.now.shown (ap (λ s. s.shown) c.self.view_is) in
    omega (arith, c.make_all.ensures.few_read, ap (λ s. s.rereads) c.self.view_is, ap (costs_in_turn (map edit_of c.args.edits.now)) text)

pub returns-then-is_empty-clause-counted : goal.returns-then-is_empty-clause-counted
returns-then-is_empty-clause-counted g c =
    let s = c.args.self.now in
    subst (λ es. AreCounted s.rereads (costs_in_turn (map edit_of es) s.shown.text) s.rereads) (sym (none-if-counted c.args.edits.now c.if-is_empty.ensures)) (none-counted s.rereads)

pub returns-then-is_empty-clause-done : goal.returns-then-is_empty-clause-done
returns-then-is_empty-clause-done g c =
    group-of_none (map edit_of c.args.edits.now) c.self.inside.history c.self.inside.group c.self.inside.doc c.args.self.now.shown (ap (map edit_of) (none-if-counted c.args.edits.now c.if-is_empty.ensures)) (ap (λ s. s.shown) c.self.view_is)
    (sym c.if-has_open_group.ensures)
