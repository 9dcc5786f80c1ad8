use Rattle.std.proofs.Common.{sym, ap}
use Rattle.mk_session.proofs.on_sessions.StoredLemmas.{group-closed, stored-by_redo}
use Rattle.mk_session.proofs.session.Session.redo.Goals as goal

pub invariant_of-self : goal.invariant_of-self
invariant_of-self g c =
    stored-by_redo c.self.inside.history c.redo.new.self c.self.inside.group c.self.inside.doc c.redo.new.state c.redo.result
    (group-closed c.self.inside.history c.self.inside.group c.self.inside.doc c.args.self.now.shown (ap (λ s. s.shown) c.self.view_is) (sym c.if-has_open_group.ensures)) c.self.invariant
    c.redo.ensures.step c.redo.ensures.done c.redo.ensures.undone c.redo.ensures.same
