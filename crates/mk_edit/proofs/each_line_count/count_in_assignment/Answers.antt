use Rattle.mk_tree.specs.Trees.{line_view}
use Rattle.mk_edit_parts.specs.LineChangePlaces.{rewrite_view}
use Rattle.mk_edit.proofs.on_each_lines.LinesCounted.{several-sought}
use Rattle.mk_edit.proofs.on_line_changes.LinesMade.{can-note, has-assignment}
use Rattle.mk_edit.proofs.each_line_count.count_in_assignment.Goals as goal

pub count_of-places-requires-clause-assignment : goal.count_of-places-requires-clause-assignment
count_of-places-requires-clause-assignment g c =
    let own = c.requires.own.1 in
    has-assignment c.requires.context (line_view c.args.line.now) own.assigned c.assignment_of.result own.is c.assignment_of.ensures

pub count_of-places-requires-clause-can : goal.count_of-places-requires-clause-can
count_of-places-requires-clause-can g c =
    let own = c.requires.own.1 in
    can-note (rewrite_view c.args.change) c.requires.context (line_view c.args.line.now) own.assigned c.assignment_of.result own.is c.assignment_of.ensures (several-sought _ c.requires.own.0) c.requires.short
