use Rattle.std.proofs.Common.{sym, ap}
use Rattle.mk_session.proofs.on_sessions.StoredLemmas.{group-closed, stored-by_undo}
use Rattle.mk_session.proofs.session.Session.undo.Goals as goal

pub invariant_of-self : goal.invariant_of-self
invariant_of-self g c =
    stored-by_undo c.self.inside.history c.undo.new.self c.self.inside.group c.self.inside.doc c.undo.new.state c.undo.result
    (group-closed c.self.inside.history c.self.inside.group c.self.inside.doc c.args.self.now.shown (ap (λ s. s.shown) c.self.view_is) (sym c.if-has_open_group.ensures)) c.self.invariant
    c.undo.ensures.step c.undo.ensures.done c.undo.ensures.undone c.undo.ensures.same
