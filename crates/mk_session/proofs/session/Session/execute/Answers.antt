use Rattle.std.proofs.Common.{Ok, Err}
use Rattle.mk_history.specs.Machine.{Undo, Redo, End, Cancel}
use Rattle.mk_edit_language.specs.EditViews.{edit_of}
use Rattle.mk_session.proofs.on_sessions.AnswerLemmas.{edit-answered, step-answered, begin-answered}
use Rattle.mk_session.proofs.on_statement.CallsStated.{apply-stated, undo-stated, redo-stated, begin-stated, end-stated, cancel-stated}
use Rattle.mk_session.proofs.session.Session.execute.Goals as goal

pub returns-in-Apply-clause-answered : goal.returns-in-Apply-clause-answered
returns-in-Apply-clause-answered g c =
    rw c.in-Apply.is (edit-answered (edit_of c.in-Apply.edit) c.apply.result c.args.self.now c.apply.new.self c.apply.ensures.done c.apply.ensures.refused c.apply.ensures.same c.apply.ensures.few_read)

pub returns-in-Undo-clause-answered : goal.returns-in-Undo-clause-answered
returns-in-Undo-clause-answered g c = rw c.in-Undo.is (step-answered Undo c.undo.result c.args.self.now c.undo.new.self c.undo.ensures.done c.undo.ensures.refused c.undo.ensures.same c.undo.ensures.none_read)

pub returns-in-Redo-clause-answered : goal.returns-in-Redo-clause-answered
returns-in-Redo-clause-answered g c = rw c.in-Redo.is (step-answered Redo c.redo.result c.args.self.now c.redo.new.self c.redo.ensures.done c.redo.ensures.refused c.redo.ensures.same c.redo.ensures.none_read)

pub returns-in-Err-clause-answered : goal.returns-in-Err-clause-answered
returns-in-Err-clause-answered g c = rw c.in-End.is (step-answered End (Err c.in-Err.refusal) c.args.self.now c.end.new.self tt c.in-Err.ensures.refused c.in-Err.ensures.same c.end.ensures.none_read)

pub returns-in-Ok-clause-answered : goal.returns-in-Ok-clause-answered
returns-in-Ok-clause-answered g c = rw c.in-End.is (step-answered End (Ok tt) c.args.self.now c.end.new.self c.in-Ok.ensures.done tt tt c.end.ensures.none_read)

pub returns-in-Cancel-clause-answered : goal.returns-in-Cancel-clause-answered
returns-in-Cancel-clause-answered g c = rw c.in-Cancel.is (step-answered Cancel c.cancel.result c.args.self.now c.cancel.new.self c.cancel.ensures.done c.cancel.ensures.refused c.cancel.ensures.same c.cancel.ensures.none_read)

pub returns-in-Begin-clause-answered : goal.returns-in-Begin-clause-answered
returns-in-Begin-clause-answered g c = rw c.in-Begin.is (begin-answered c.begin.result c.args.self.now c.begin.new.self c.begin.ensures.done c.begin.ensures.refused c.begin.ensures.same c.begin.ensures.none_read)

pub returns-in-Apply-clause-stated : goal.returns-in-Apply-clause-stated
returns-in-Apply-clause-stated g c = rw c.in-Apply.is (apply-stated c.in-Apply.edit c.apply.result c.args.self.now.shown c.apply.new.self.shown c.apply.ensures.done c.apply.ensures.same)

pub returns-in-Undo-clause-stated : goal.returns-in-Undo-clause-stated
returns-in-Undo-clause-stated g c = undo-stated c.args.command.now c.undo.result c.args.self.now.shown c.undo.new.self.shown c.in-Undo.is c.undo.ensures.done c.undo.ensures.refused c.undo.ensures.same

pub returns-in-Redo-clause-stated : goal.returns-in-Redo-clause-stated
returns-in-Redo-clause-stated g c = redo-stated c.args.command.now c.redo.result c.args.self.now.shown c.redo.new.self.shown c.in-Redo.is c.redo.ensures.done c.redo.ensures.same

pub returns-in-Begin-clause-stated : goal.returns-in-Begin-clause-stated
returns-in-Begin-clause-stated g c = begin-stated c.args.command.now c.begin.result c.args.self.now.shown c.begin.new.self.shown c.in-Begin.is c.begin.ensures.done c.begin.ensures.same

pub returns-in-Err-clause-stated : goal.returns-in-Err-clause-stated
returns-in-Err-clause-stated g c = end-stated c.args.command.now (Err c.in-Err.refusal) c.args.self.now.shown c.end.new.self.shown c.in-End.is tt c.in-Err.ensures.same

pub returns-in-Ok-clause-stated : goal.returns-in-Ok-clause-stated
returns-in-Ok-clause-stated g c = end-stated c.args.command.now (Ok tt) c.args.self.now.shown c.end.new.self.shown c.in-End.is c.in-Ok.ensures.done tt

pub returns-in-Cancel-clause-stated : goal.returns-in-Cancel-clause-stated
returns-in-Cancel-clause-stated g c = cancel-stated c.args.command.now c.cancel.result c.args.self.now.shown c.cancel.new.self.shown c.in-Cancel.is c.cancel.ensures.done c.cancel.ensures.same
