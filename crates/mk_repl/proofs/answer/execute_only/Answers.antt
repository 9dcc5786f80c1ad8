-- By how many steps there are.
use Rattle.std.proofs.Common.{refl, sym, subst}
use Rattle.mk_script.specs.Scripts.{step_of}
use Rattle.mk_run.specs.RunSteps.{IsExecuted}
use Rattle.mk_repl.specs.Replies.{AreExecuted}
use Rattle.mk_repl.specs.declared.answer.Executed.TheVariants.{Nothing, NoCommand}
use Rattle.mk_repl.proofs.StepLemmas.{none, one, several}
use Rattle.mk_repl.proofs.answer.execute_only.Goals as goal

pub returns-in-empty : goal.returns-in-empty
returns-in-empty g c =
    subst (λ steps. AreExecuted steps c.args.session.now.shown c.args.session.now.shown Nothing)
    (sym (none step_of c.args.steps.now c.in-empty.len_below)) (refl, refl)

pub returns-in-len1 : goal.returns-in-len1
returns-in-len1 g c =
    subst (λ steps. AreExecuted steps c.args.session.now.shown c.execute_step.new.session.shown c.came_of.result)
    (sym (one step_of c.args.steps.now c.step-item.result c.in-len1.len_at_least c.in-len1.len_below)) (
      c.execute_step.result,
      subst (λ step. IsExecuted (step_of step) c.execute_step.result c.args.session.now.shown c.execute_step.new.session.shown)
          c.step-item.is c.execute_step.ensures.executed,
      c.came_of.ensures,
    )

pub returns-in_default : goal.returns-in_default
returns-in_default g c =
    let steps = several step_of c.args.steps.now c.in_default.len_at_least in
    subst (λ steps. AreExecuted steps c.args.session.now.shown c.args.session.now.shown NoCommand) (sym steps.3) (refl, refl)
