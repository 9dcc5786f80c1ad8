use Rattle.mk_lines.proofs.StoredLemmas.{offset_by_ends-found, offset_by_ends-none}
use Rattle.mk_lines.proofs.cells.stored.offset_by_ends.Goals as goal

pub returns-in-Some : goal.returns-in-Some
returns-in-Some c =
    let found = c.in-Some.ensures.lookup in
    offset_by_ends-found c.args.ends.now c.args.after c.args.offset c.count_folds_behind.result c.count_folds_behind.ensures c.in-Some.end.now found.3.0 found.1

pub returns-in-None : goal.returns-in-None
returns-in-None c = offset_by_ends-none c.args.ends.now c.args.after c.args.offset c.count_folds_behind.result c.count_folds_behind.ensures c.in-None.ensures.lookup.3
