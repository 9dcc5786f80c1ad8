use Rattle.std.proofs.Common.{arith}
use Rattle.mk_lines.proofs.UnitWalkLemmas.{IsAfterUnit-parens, IsAfterUnit-braces}
use Rattle.mk_lines.proofs.unit.after_unit.Goals as goal

pub returns-in-36-clause-after : goal.returns-in-36-clause-after
returns-in-36-clause-after c = (IsAfterUnit-parens c.args.text.now c.after_close.result c.in-36.len_at_least (omega arith) (omega arith) c.after_close.ensures).0

pub returns-in-36-clause-closed : goal.returns-in-36-clause-closed
returns-in-36-clause-closed c = (IsAfterUnit-parens c.args.text.now c.after_close.result c.in-36.len_at_least (omega arith) (omega arith) c.after_close.ensures).1

pub returns-in-36-2-clause-after : goal.returns-in-36-2-clause-after
returns-in-36-2-clause-after c = (IsAfterUnit-braces c.args.text.now c.after_close-in-36-2.result c.in-36-2.len_at_least (omega arith) (omega arith) c.after_close-in-36-2.ensures).0

pub returns-in-36-2-clause-closed : goal.returns-in-36-2-clause-closed
returns-in-36-2-clause-closed c = (IsAfterUnit-braces c.args.text.now c.after_close-in-36-2.result c.in-36-2.len_at_least (omega arith) (omega arith) c.after_close-in-36-2.ensures).1
