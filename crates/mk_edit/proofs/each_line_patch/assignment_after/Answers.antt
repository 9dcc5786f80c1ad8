use Rattle.std.proofs.Common.{◌≡◌, ◌∙◌, sym, subst, ◌≤◌, length}
use Rattle.std.proofs.lemmas.List.{append-nil}
use Rattle.mk_tree.specs.Trees.{line_view}
use Rattle.mk_edit_parts.specs.LineChangePlaces.{rewrite_view}
use Rattle.mk_edit.specs.ValueChangeLines.{value_text_located}
use Rattle.mk_edit.proofs.on_each_lines.LinesCounted.{changed-some, several-one, several-sought}
use Rattle.mk_edit.proofs.on_line_changes.LinesMade.{can-note, has-assignment}
use Rattle.mk_edit.proofs.each_line_patch.assignment_after.Goals as goal

pub places_of-places-requires-clause-assignment : goal.places_of-places-requires-clause-assignment
places_of-places-requires-clause-assignment g c =
    let own = c.requires.own.1 in
    has-assignment c.args.noted.now.place.context (line_view c.args.noted.now.line.now) own.assigned c.assignment_of-assignment.result own.is c.assignment_of-assignment.ensures

pub places_of-places-requires-clause-can : goal.places_of-places-requires-clause-can
places_of-places-requires-clause-can g c =
    let own = c.requires.own.1 in
    can-note (rewrite_view c.args.change) c.args.noted.now.place.context (line_view c.args.noted.now.line.now) own.assigned c.assignment_of-assignment.result own.is c.assignment_of-assignment.ensures (several-sought _ c.requires.own.0) c.requires.short

pub changed_line-requires-clause-one : goal.changed_line-requires-clause-one
changed_line-requires-clause-one g c =
    let l = line_view c.args.noted.now.line.now in
    let some = changed-some (rewrite_view c.args.change) c.args.noted.now.place.context l c.assignment_of-assignment.result c.requires.own c.requires.classed c.requires.changed c.assignment_of-assignment.ensures in
    let items : c.deref.result.now ≡ c.in-Some.ranges.items = rw c.in-Some.is at c.deref.ensures.value in
    let noted = items ∙ (sym (append-nil c.in-Some.ranges.items) ∙ rw c.in-Some.is at c.places_of-places.ensures.ranges) in
    several-one (rewrite_view c.args.change) c.requires.own.0 (length c.deref.result.now) (value_text_located l) (subst (λ z. 1 ≤ length z) (sym noted) some)
