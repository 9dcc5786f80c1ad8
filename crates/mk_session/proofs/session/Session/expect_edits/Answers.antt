use Rattle.mk_session.proofs.session.Session.expect_edits.Goals as goal

pub invariant_of-self : goal.invariant_of-self
invariant_of-self g c = rw c.expect_edits.ensures c.self.invariant
