use Rattle.std.proofs.Common.{sym, subst}
use Rattle.mk_lines.specs.Cells.{line_cells}
use Rattle.mk_class.specs.LineReads.{IsPlain}
use Rattle.mk_tree.specs.Trees.{line_view}
use Rattle.mk_queries.proofs.ReadableLemmas.{readable-plain}
use Rattle.mk_queries.proofs.walk.is_unread_assignment.Goals as goal

pub class_of_plain_line-requires-clause-plain : goal.class_of_plain_line-requires-clause-plain
class_of_plain_line-requires-clause-plain g c = subst IsPlain (sym c.text.ensures) (readable-plain (line_cells (line_view c.args.line.now).bytes) (sym c.if-not-is_unreadable.ensures))
