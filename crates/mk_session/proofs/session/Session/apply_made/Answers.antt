use Rattle.std.proofs.Common.{◌≡◌, ◌≤◌, ◌+◌, subst, inl}
use Rattle.std.specs.Prelude.{Result, Ok, Err, OnOk, OnErr, IfErr}
use Rattle.mk_tree.specs.Counting.{AreCounted}
use Rattle.mk_edit_language.specs.Edits.{Edit}
use Rattle.mk_edit_language.specs.Costs.{cost}
use Rattle.mk_edit_language.specs.EditViews.{edit_of}
use Rattle.mk_edit_language.specs.declared.refusal.Refusal.{Refusal}
use Rattle.mk_history.specs.Machine.{Apply}
use Rattle.mk_session.specs.Applied.{IsApplied}
use Rattle.mk_session.specs.Sessions.{Seen, answer, IsEditRefusal}
use Rattle.mk_session.proofs.session.Session.apply_made.Goals as goal

-- the clauses of `apply` in one
applied : (e : Edit) (r : Result (Unit {0}) Refusal) (x y : Seen)
    → OnOk r (answer (Apply e) x.shown ≡ Ok y.shown) → IfErr r (λ q. IsEditRefusal e x.shown q) → OnErr r (y.shown ≡ x.shown)
    → OnOk r (AreCounted x.rereads (cost x.shown.text e) y.rereads) → y.rereads ≤ x.rereads + cost x.shown.text e → x.rereads ≤ y.rereads
    → IsApplied e r x y
applied e (Ok u) x y done refused same counted few forward = record { done = done; counted = counted; few_read = few; forward = forward }
applied e (Err q) x y done refused same counted few forward = record { refused = inl refused; same = same; few_read = few; forward = forward }

pub returns-in-Ok : goal.returns-in-Ok
returns-in-Ok g c e made =
    let by = c.apply.ensures in
    subst (λ (x : Edit). IsApplied x c.apply.result c.args.self.now c.apply.new.self) (rw c.in-Ok.is at made)
    (applied (edit_of c.in-Ok.edit) c.apply.result c.args.self.now c.apply.new.self by.done by.refused by.same by.counted by.few_read by.forward)
