use Rattle.std.proofs.Common.{◌≡◌, ◌∙◌, ap, arith, ◌++◌, length, drop}
use Rattle.mk_lines.specs.Cells.{line_cells}
use Rattle.mk_lines.specs.declared.split.Span.{Span}
use Rattle.mk_tree.specs.Trees.{line_view}
use Rattle.mk_edit_parts.specs.RenamedRanges.{part_ranges}
use Rattle.mk_edit_parts.specs.RenamedTexts.{written}
use Rattle.mk_edit_parts.specs.WordCuts.{last_end}
use Rattle.mk_edit_parts.proofs.on_prerequisites.ReplacedPrerequisites.{lists-joined, lists-written}
use Rattle.mk_edit_parts.proofs.prerequisite.with_prerequisite_replaced.Goals as goal

pub write_part-requires-clause-apart : goal.write_part-requires-clause-apart
write_part-requires-clause-apart g c = rw c.normal.ensures (lists-written (line_view c.args.line.now) c.args.header c.args.old.now c.args.new.now c.requires).second

pub write_part-requires-2-clause-apart : goal.write_part-requires-2-clause-apart
write_part-requires-2-clause-apart g c = rw (c.in_ok-normal_end.ensures.end, c.normal.ensures, c.order_only.ensures) (lists-written (line_view c.args.line.now) c.args.header c.args.old.now c.args.new.now c.requires).third

pub rest-requires : goal.rest-requires
rest-requires g c =
    rw (c.in_ok-end.ensures.end, c.in_ok-normal_end.ensures.end, c.normal.ensures, c.order_only.ensures)
    (let within = (lists-written (line_view c.args.line.now) c.args.header c.args.old.now c.args.new.now c.requires).within in omega (arith, within, ap length c.bytes-2.ensures.bytes))

pub returns : goal.returns
returns g c = λ h S.
    let l = line_view c.args.line.now in
    let cs = line_cells l.bytes in
    let o = c.args.old.now in
    let n = c.args.new.now in
    let none = c.in_ok-bytes.bytes.items in
    let one = c.write_part.new.bytes.items in
    let two = c.write_part-2.new.bytes.items in
    let j = c.in_ok-normal_end.normal_end in
    let k = c.in_ok-end.end in
    let all : c.extend_from_slice.new.self.items ≡ two ++ drop k l.bytes = c.in_ok-extend_from_slice.ensures.items ∙ ap (λ z. two ++ z) (c.rest.ensures ∙ ap (drop k) c.bytes-2.ensures.bytes) in
    lists-joined l c.args.header h o n none one two c.extend_from_slice.new.self.items j k S c.in_ok-bytes.ensures.items
    (c.in_ok-normal_end.ensures.end ∙ ap (λ (s : Span). last_end 0 (part_ranges cs o s)) c.normal.ensures) (c.in_ok-end.ensures.end ∙ ap (λ (s : Span). last_end j (part_ranges cs o s)) c.order_only.ensures)
    (c.in_ok-normal_end.ensures.written ∙ ap (λ (s : Span). none ++ written l.bytes 0 n (part_ranges cs o s)) c.normal.ensures)
    (c.in_ok-end.ensures.written ∙ ap (λ (s : Span). one ++ written l.bytes j n (part_ranges cs o s)) c.order_only.ensures) all
