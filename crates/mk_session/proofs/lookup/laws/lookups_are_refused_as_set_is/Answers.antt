use Rattle.mk_session.proofs.lookup.LawLemmas.{found-where_set, refused-as_set}
use Rattle.mk_session.proofs.lookup.laws.lookups_are_refused_as_set_is.Goals as goal

pub returns-clause-refused : goal.returns-clause-refused
returns-clause-refused c = refused-as_set

pub returns-clause-found : goal.returns-clause-found
returns-clause-found c = found-where_set
