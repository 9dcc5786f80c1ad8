use Rattle.mk_edit.proofs.on_plans.DocumentPlaces.{insert-low, place-defines}
use Rattle.mk_edit.proofs.moves.insert_line.Goals as goal

pub read_line-requires-clause-defines : goal.read_line-requires-clause-defines
read_line-requires-clause-defines g c = place-defines c.args.doc.now c.args.place c.requires.place (insert-low c.args.doc.now c.args.place.at _ c.requires.can c.size-size.ensures.some_bytes)
