-- What came of the line, and the reply to it.
use Rattle.std.proofs.Common.{refl, subst}
use Rattle.mk_repl.specs.Replies.{IsLineExecuted}
use Rattle.mk_repl.specs.declared.answer.Executed.TheVariants.{Done, Refused, Nothing, NoCommand}
use Rattle.mk_repl.proofs.StepLemmas.{Appends-nothing, if-any-err}
use Rattle.mk_repl.proofs.answer.answer_line.Goals as goal

pub returns-in_ok-write_reply-in-Done-clause-answered : goal.returns-in_ok-write_reply-in-Done-clause-answered
returns-in_ok-write_reply-in-Done-clause-answered g c = (
  Done,
  subst (IsLineExecuted c.args.line.now c.args.session.now.shown c.execute_line.new.session.shown) c.in-Done.is c.execute_line.ensures,
  refl,
  c.in_ok-write_reply-in-Done.ensures.whole,
)

pub returns-in_err-write_reply-in-Done-clause-cut : goal.returns-in_err-write_reply-in-Done-clause-cut
returns-in_err-write_reply-in-Done-clause-cut g c =
    if-any-err c.from_residual.result (
      Done,
      subst (IsLineExecuted c.args.line.now c.args.session.now.shown c.execute_line.new.session.shown) c.in-Done.is c.execute_line.ensures,
      refl,
      c.in_err-write_reply-in-Done.ensures.prefix,
    )

pub returns-in_ok-write_reply-in-Refused-clause-answered : goal.returns-in_ok-write_reply-in-Refused-clause-answered
returns-in_ok-write_reply-in-Refused-clause-answered g c = (
  Refused c.in-Refused.refusal,
  subst (IsLineExecuted c.args.line.now c.args.session.now.shown c.execute_line.new.session.shown) c.in-Refused.is c.execute_line.ensures,
  refl,
  c.in_ok-write_reply-in-Refused.ensures.whole,
)

pub returns-in_err-write_reply-in-Refused-clause-cut : goal.returns-in_err-write_reply-in-Refused-clause-cut
returns-in_err-write_reply-in-Refused-clause-cut g c =
    if-any-err c.from_residual-in_err-write_reply-in-Refused.result (
      Refused c.in-Refused.refusal,
      subst (IsLineExecuted c.args.line.now c.args.session.now.shown c.execute_line.new.session.shown) c.in-Refused.is c.execute_line.ensures,
      refl,
      c.in_err-write_reply-in-Refused.ensures.prefix,
    )

pub returns-in-Nothing-clause-answered : goal.returns-in-Nothing-clause-answered
returns-in-Nothing-clause-answered g c = (
  Nothing,
  subst (IsLineExecuted c.args.line.now c.args.session.now.shown c.execute_line.new.session.shown) c.in-Nothing.is c.execute_line.ensures,
  refl,
  Appends-nothing (g.W.ByteSink.contents c.args.out.now),
)

pub returns-in-NoCommand-clause-answered : goal.returns-in-NoCommand-clause-answered
returns-in-NoCommand-clause-answered g c = (
  NoCommand,
  subst (IsLineExecuted c.args.line.now c.args.session.now.shown c.execute_line.new.session.shown) c.in-NoCommand.is c.execute_line.ensures,
  refl,
  Appends-nothing (g.W.ByteSink.contents c.args.out.now),
)
