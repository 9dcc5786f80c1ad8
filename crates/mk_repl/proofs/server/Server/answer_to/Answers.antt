use Rattle.std.proofs.Common.{◌≡◌, ◌∙◌, inl, inr}
use Rattle.std.proofs.lemmas.Result.{IfOk-weaker}
use Rattle.mk_repl.specs.declared.answer.Executed.TheVariants.{NoCommand}
use Rattle.mk_repl.specs.declared.talk.After.TheVariants.{GoesOn, Ends}
use Rattle.mk_repl.proofs.StepLemmas.{command-handled}
use Rattle.mk_repl.proofs.server.Server.answer_to.Goals as goal

pub returns-in-NoCommand-clause-told : goal.returns-in-NoCommand-clause-told
returns-in-NoCommand-clause-told g c =
    let other = c.answer_other.ensures in
    let opened : c.execute.new.self.opened ≡ c.args.self.now.opened = c.execute.ensures.opened in
    let executed = rw c.in-NoCommand.is at c.execute.ensures.executed in
    record {
      said = IfOk-weaker c.answer_other.result _ _
          (λ after said. (said.0, said.1, ((NoCommand, c.execute.new.self.session.shown, executed, rw opened at said.2), (λ warned. inl (other.warned warned)), other.opened ∙ opened)))
          other.told.said;
      fault = other.told.fault;
      works = other.told.works;
    }

never : Ends ≡ GoesOn → ⊥
never e = cc

pub returns-in_default : goal.returns-in_default
returns-in_default g c =
    let replied = c.answer_command.ensures in
    record {
      told = record {
        said = IfOk-weaker c.answer_command.result _ _
            (λ after said. (
              said.0,
              said.1,
              (
                command-handled c.execute.result c.args.text.now c.args.self.now.opened c.args.self.now.session.shown c.execute.new.self.session.shown said.0 after c.in_default.not-NoCommand
                    c.execute.ensures.executed said.2.0 said.2.1,
                (λ warned. let kept = c.execute.ensures.warned warned in inr (said.2.0 ∙ kept.0, kept.1)),
                c.execute.ensures.opened,
              ),
            ))
            replied.said;
        fault = replied.fault;
        works = replied.works;
      };
      quit = λ ends asked. absurd (never (rw ends at replied.said).2.1);
    }
