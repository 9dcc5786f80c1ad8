use Rattle.mkedit.proofs.run.run_to.Goals as goal

pub returns-clause-law : goal.returns-clause-law
returns-clause-law g c = λ script says. (c.run_steps-outcome.ensures.over script says).0
