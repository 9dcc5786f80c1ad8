use Rattle.mk_session.proofs.lookup.LawLemmas.{refused-as_unrule, refused-as_unset}
use Rattle.mk_session.proofs.lookup.laws.lines_are_refused_as_edits_are.Goals as goal

pub returns-clause-assignments : goal.returns-clause-assignments
returns-clause-assignments c = refused-as_unset

pub returns-clause-rules : goal.returns-clause-rules
returns-clause-rules c = refused-as_unrule
