use Rattle.mk_diff.proofs.ShownLemmas.{shown-rest}
use Rattle.mk_diff.proofs.matching.next_match.Goals as goal

pub near_match-requires : goal.near_match-requires
near_match-requires g c = rw (shown-rest c.args.at c.args.new.now) c.requires.differ

pub returns-in-Some-clause-found : goal.returns-in-Some-clause-found
returns-in-Some-clause-found g c = rw (shown-rest c.args.at c.args.new.now) at c.in-Some.ensures
