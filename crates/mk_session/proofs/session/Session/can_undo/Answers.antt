use Rattle.std.proofs.Common.{sym, ap}
use Rattle.mk_session.proofs.on_sessions.AnswerLemmas.{can-undo}
use Rattle.mk_session.proofs.session.Session.can_undo.Goals as goal

pub returns-then-not-has_open_group : goal.returns-then-not-has_open_group
returns-then-not-has_open_group g c =
    can-undo c.can_undo.result c.self.inside.history c.self.inside.group c.self.inside.doc c.args.self.now.shown
    (ap (λ s. s.shown) c.self.view_is) (sym c.if-not-has_open_group.ensures) c.can_undo.ensures
