use Rattle.std.proofs.Common.{None, Some, eq-eqb, get_or, arith}
use Rattle.mk_lines.proofs.StackLemmas.{search-further, search-no_line_feed}
use Rattle.mk_lines.proofs.cells.stray_cells.Goals as goal

pub plain-requires-clause-no_line_feed : goal.plain-requires-clause-no_line_feed
plain-requires-clause-no_line_feed g c =
    search-no_line_feed c.args.text.now (search-further c.args.text.now c.args.first None c.requires c.in-None.ensures)

pub folded_cells-requires-clause-before : goal.folded_cells-requires-clause-before
folded_cells-requires-clause-before g c =
    let feed = search-further c.args.text.now c.args.first (Some c.in-Some.further) c.requires c.in-Some.ensures in
    λ k below is. feed.0.before k (omega arith) below (eq-eqb (get_or c.args.text.now k 0) 10 is)
