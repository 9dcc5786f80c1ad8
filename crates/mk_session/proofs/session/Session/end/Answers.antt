use Rattle.std.proofs.Common.{sym, ap, subst, Option}
use Rattle.mk_session.specs.StoredSessions.{Patches, IsStored}
use Rattle.mk_session.proofs.on_sessions.StoredLemmas.{some-if-counted, none-if-counted, stored-ended, stored-ended_empty}
use Rattle.mk_session.proofs.on_sessions.StepLemmas.{end-step}
use Rattle.mk_session.proofs.session.Session.end.Goals as goal

pub invariant_of-self-then-not-is_empty : goal.invariant_of-self-then-not-is_empty
invariant_of-self-then-not-is_empty g c =
    let k = subst (λ (o : Option Patches). IsStored c.self.inside.history o c.self.inside.doc) (sym c.in-Some.ensures.value) c.self.invariant in
    rw (c.push.ensures, c.take.ensures.after) (stored-ended c.self.inside.history c.in-Some.group c.self.inside.doc k)

pub invariant_of-self-else-not-is_empty : goal.invariant_of-self-else-not-is_empty
invariant_of-self-else-not-is_empty g c =
    let k = subst (λ (o : Option Patches). IsStored c.self.inside.history o c.self.inside.doc) (sym c.in-Some.ensures.value) c.self.invariant in
    rw c.take.ensures.after (stored-ended_empty c.self.inside.history c.in-Some.group c.self.inside.doc k (none-if-counted c.in-Some.group.changes c.if-not-is_empty.ensures))

pub returns-then-not-is_empty-clause-done : goal.returns-then-not-is_empty-clause-done
returns-then-not-is_empty-clause-done g c =
    end-step c.self.inside.history c.push.new.self c.self.inside.group c.take.new.self c.in-Some.group c.self.inside.doc c.args.self.now.shown
    (ap (λ s. s.shown) c.self.view_is) c.self.invariant (sym c.in-Some.ensures.value) c.take.ensures.after
    (some-if-counted c.in-Some.group.changes c.if-not-is_empty.ensures) c.push.ensures
