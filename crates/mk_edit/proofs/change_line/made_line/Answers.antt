use Rattle.std.proofs.Common.{◌≡◌, ◌∙◌, sym, ap, subst, ℕ, List, length, None}
use Rattle.std.specs.Cow.{cow_slice_items}
use Rattle.std.specs.Prelude.{IfSome}
use Rattle.mk_lines.specs.Cells.{Cell, joined_byte, line_cells}
use Rattle.mk_class.specs.Assignments.{Assignment}
use Rattle.mk_class.specs.LocatedClasses.{located_class}
use Rattle.mk_tree.specs.LocatedLines.{text_of_line}
use Rattle.mk_tree.specs.Trees.{line_view}
use Rattle.mk_edit_language.specs.Edits.{LineChange}
use Rattle.mk_edit_parts.specs.LineChangePlaces.{new_text, raw_ranges, rewrite_view, separator_bytes, separator_place, separator_text}
use Rattle.mk_edit_parts.specs.RenamedRanges.{IsWithin}
use Rattle.mk_edit_parts.specs.RenamedTexts.{rewritten}
use Rattle.mk_edit.specs.LineChangePlans.{IsAssignmentIn, CanRewrite, first_of_words, value_made}
use Rattle.mk_edit.specs.ValueChangeLines.{value_text_located}
use Rattle.mk_edit.proofs.on_line_changes.LinesMade.{HasPlaces, IsSaid, IsWritten, has-assignment, has-places, is-said, is-written, separator-within}
use Rattle.mk_edit.proofs.change_line.made_line.Given.{Over}
use Rattle.mk_edit.proofs.change_line.made_line.Goals.{In_ok-written, In_ok-read}
use Rattle.mk_edit.proofs.change_line.made_line.Goals as goal

pub value_text-value-requires : goal.value_text-value-requires
value_text-value-requires g c = record { context = c.args.place.now.context; class_is = c.requires.own.is.class_is ∙ ap (located_class joined_byte) (sym c.requires.own.is.here) }

pub separator_place-separator-requires : goal.separator_place-separator-requires
separator_place-separator-requires g c = has-assignment c.args.place.now.context (line_view c.args.line.now) c.requires.own.assigned c.args.assignment c.requires.own.is c.requires.at

pub separator_bytes-requires : goal.separator_bytes-requires
separator_bytes-requires g c =
    let l = line_view c.args.line.now in
    subst (λ o. IfSome o (IsWithin (length (line_cells l.bytes)))) (sym c.separator_place-separator.ensures)
    (separator-within (rewrite_view c.args.change) c.args.place.now.context l c.requires.own.assigned c.args.assignment c.requires.own.is c.requires.at)

pub separator_text-requires : goal.separator_text-requires
separator_text-requires g c =
    let l = line_view c.args.line.now in
    subst (λ o. IfSome o (IsWithin (length (line_cells l.bytes)))) (sym c.separator_place-separator.ensures)
    (separator-within (rewrite_view c.args.change) c.args.place.now.context l c.requires.own.assigned c.args.assignment c.requires.own.is c.requires.at)

-- the text that goes to each place, by its separator
text-by : (c : LineChange) (s s' v n : List ℕ) → n ≡ new_text c s v → s ≡ s' → n ≡ new_text c s' v
text-by c s s' v n h k = h ∙ ap (λ z. new_text c z v) k

-- the words of the value refuse nothing
unrefused-by : (c : LineChange) (k : ℕ) (v w : List ℕ) → v ≡ w → first_of_words c k w ≡ None → first_of_words c k v ≡ None
unrefused-by c k v w e h = ap (first_of_words c k) e ∙ h

-- what is made of the line, for each assignment that it may be
written : (g : Over) (c : In_ok-written g) (a : Assignment Cell) → IsAssignmentIn c.args.place.now.context (line_view c.args.line.now) a
    → IsWritten (rewrite_view c.args.change) (line_view c.args.line.now) a c.args.ranges.now (cow_slice_items c.in_ok-written.written)
written g c a I =
    let d = rewrite_view c.args.change in
    let l = line_view c.args.line.now in
    let v = c.value_text-value.result.now in
    let p = c.args.assignment in
    let s = separator_place d (text_of_line l) p in
    is-written d c.args.place.now.context l a p c.args.ranges.now v (cow_slice_items c.in_ok-written.written) I c.requires.at c.requires.sought c.requires.ranges c.value_text-value.ensures
    (unrefused-by d (length c.args.ranges.now) v (value_text_located l) c.value_text-value.ensures c.requires.one)
    (text-by d c.separator_bytes.result.now (separator_bytes (line_cells l.bytes) s) v (cow_slice_items c.in_ok-written.written) c.in_ok-written.ensures (c.separator_bytes.ensures ∙ ap (separator_bytes (line_cells l.bytes)) c.separator_place-separator.ensures))

said : (g : Over) (c : In_ok-read g) (a : Assignment Cell) → IsAssignmentIn c.args.place.now.context (line_view c.args.line.now) a
    → IsSaid (rewrite_view c.args.change) (line_view c.args.line.now) a c.args.assignment c.args.ranges.now (cow_slice_items c.in_ok-read.read)
said g c a I =
    let d = rewrite_view c.args.change in
    let l = line_view c.args.line.now in
    let v = c.value_text-value.result.now in
    let p = c.args.assignment in
    let s = separator_place d (text_of_line l) p in
    is-said d c.args.place.now.context l a p c.args.ranges.now v (cow_slice_items c.in_ok-read.read) I c.requires.at c.requires.sought c.requires.ranges c.value_text-value.ensures
    (unrefused-by d (length c.args.ranges.now) v (value_text_located l) c.value_text-value.ensures c.requires.one)
    (text-by d c.separator_text.result.now (separator_text (text_of_line l) s) v (cow_slice_items c.in_ok-read.read) c.in_ok-read.ensures (c.separator_text.ensures ∙ ap (separator_text (text_of_line l)) c.separator_place-separator.ensures))

placed : (g : Over) (c : In_ok-read g) → HasPlaces (rewrite_view c.args.change) (line_view c.args.line.now) c.requires.own.assigned c.args.ranges.now
placed g c =
    has-places (rewrite_view c.args.change) c.args.place.now.context (line_view c.args.line.now) c.requires.own.assigned c.args.assignment c.args.ranges.now c.requires.own.is c.requires.at c.requires.sought c.requires.ranges

pub new_bytes-requires-clause-within : goal.new_bytes-requires-clause-within
new_bytes-requires-clause-within g c = (placed g (goal.at.new_bytes-requires-clause-within g c).In_ok-read).within

pub new_bytes-requires-clause-apart : goal.new_bytes-requires-clause-apart
new_bytes-requires-clause-apart g c = (placed g (goal.at.new_bytes-requires-clause-apart g c).In_ok-read).apart

pub new_front-requires : goal.new_front-requires
new_front-requires g c =
    let M = said g (goal.at.new_front-requires g c).In_ok-read c.requires.own.assigned c.requires.own.is in
    record { can = subst (CanRewrite (rewrite_view c.args.change) (text_of_line (line_view c.args.line.now)) c.args.assignment c.args.ranges.now) (sym c.as_slice-2.ensures.value) M.can }

pub returns-clause-made : goal.returns-clause-made
returns-clause-made g c =
    let W = written g (goal.at.returns-clause-made g c).In_ok-written in
    let M = said g (goal.at.returns-clause-made g c).In_ok-read in
    record {
      bytes_are = λ a I. c.in_ok-bytes.ensures ∙ (ap (λ (n : List ℕ). rewritten (line_view c.args.line.now).bytes n (raw_ranges (line_cells (line_view c.args.line.now).bytes) c.args.ranges.now)) c.as_slice.ensures.value ∙ (W a I).bytes);
      value_is = λ a I. c.in_ok-front.ensures.value ∙ (ap (λ (n : List ℕ). value_made (rewrite_view c.args.change) (text_of_line (line_view c.args.line.now)) c.args.assignment c.args.ranges.now n) c.as_slice-2.ensures.value ∙ (M a I).value);
    }
