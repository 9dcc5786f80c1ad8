use Rattle.std.proofs.Common.{arith}
use Rattle.mk_edit.proofs.on_plans.DocumentPlaces.{place-defines}
use Rattle.mk_edit.proofs.moves.replace_line.Goals as goal

pub read_line-requires-clause-defines : goal.read_line-requires-clause-defines
read_line-requires-clause-defines g c = place-defines c.args.doc.now c.args.place c.requires.place (omega arith)
