use Rattle.std.proofs.Common.{length}
use Rattle.mk_lines.proofs.UnitWalkLemmas.{units_left-count}
use Rattle.mk_lines.proofs.iter.Units.new.Goals as goal

pub returns-clause-count : goal.returns-clause-count
returns-clause-count c = units_left-count (length c.args.text.now) c.args.text.now
