use Rattle.std.proofs.Common.{◌≡◌, ◌∙◌, ◌≤◌, length, arith, ap}
use Rattle.std.specs.Rc.{rc_slice_items}
use Rattle.mk_lines.specs.Limits.{max_text}
use Rattle.mk_tree.specs.LocatedLines.{size_of}
use Rattle.mk_tree.specs.Unread.{UnreadLines, shown_lines}
use Rattle.mk_tree.proofs.on_changes.Sizes.{size_of-text}
use Rattle.mk_tree.proofs.on_documents.DocumentLemmas.{faithful-own, faithful-text}
use Rattle.mk_tree.proofs.Reading.{end-read, read-all, shallow, size_of-document}
use Rattle.mk_tree.proofs.OriginLemmas.{untouched-read}
use Rattle.mk_tree.proofs.document.Doc.parse_with_end.Goals as goal

pub read_tree-requires : goal.read_tree-requires
read_tree-requires g c =
    let same = ap (λ (u : UnreadLines). size_of (shown_lines u)) c.new-lines.ensures in
    record { high = omega arith; fits = omega (arith, c.if-len-gt-MAX_TEXT.false, c.len.ensures, same, size_of-document (rc_slice_items c.in_ok-text.text), ap length c.in_ok-text.ensures) }

pub returns-clause-faithful : goal.returns-clause-faithful
returns-clause-faithful g c =
    let text = rc_slice_items c.in_ok-text.text in
    let short : length text ≤ max_text = omega (arith, c.if-len-gt-MAX_TEXT.false, c.len.ensures, ap length c.in_ok-text.ensures) in
    rw c.in_ok-text.ensures at (read-all text _ _ c.in_ok-tree.tree.0 c.in_ok-tree.tree.1 short c.new-lines.ensures c.in_ok-tree.ensures.read c.in_ok-tree.ensures.full).0

pub returns-clause-own : goal.returns-clause-own
returns-clause-own g c =
    let text = rc_slice_items c.in_ok-text.text in
    let short : length text ≤ max_text = omega (arith, c.if-len-gt-MAX_TEXT.false, c.len.ensures, ap length c.in_ok-text.ensures) in
    faithful-own c.in_ok-tree.tree.0 text (read-all text _ _ c.in_ok-tree.tree.0 c.in_ok-tree.tree.1 short c.new-lines.ensures c.in_ok-tree.ensures.read c.in_ok-tree.ensures.full).0

pub returns-clause-end : goal.returns-clause-end
returns-clause-end g c = end-read (rc_slice_items c.in_ok-text.text) _ _ c.in_ok-tree.tree.0 c.end-end.result c.new-lines.ensures c.in_ok-tree.ensures.read c.end-end.ensures

pub returns-clause-shallow : goal.returns-clause-shallow
returns-clause-shallow g c =
    let text = rc_slice_items c.in_ok-text.text in
    let short : length text ≤ max_text = omega (arith, c.if-len-gt-MAX_TEXT.false, c.len.ensures, ap length c.in_ok-text.ensures) in
    shallow c.args.text.items (rw c.in_ok-text.ensures at (read-all text _ _ c.in_ok-tree.tree.0 c.in_ok-tree.tree.1 short c.new-lines.ensures c.in_ok-tree.ensures.read c.in_ok-tree.ensures.full).1)

pub invariant_of-result : goal.invariant_of-result
invariant_of-result g c =
    let text = rc_slice_items c.in_ok-text.text in
    let short : length text ≤ max_text = omega (arith, c.if-len-gt-MAX_TEXT.false, c.len.ensures, ap length c.in_ok-text.ensures) in
    let read = read-all text _ _ c.in_ok-tree.tree.0 c.in_ok-tree.tree.1 short c.new-lines.ensures c.in_ok-tree.ensures.read c.in_ok-tree.ensures.full in
    let size : size_of c.in_ok-tree.tree.0 ≡ length text = size_of-text c.in_ok-tree.tree.0 ∙ ap length (faithful-text c.in_ok-tree.tree.0 text read.0) in
    let untouched = untouched-read text _ c.len-2.result _ _ c.in_ok-tree.tree.0 c.len-2.ensures.len c.new-origin.ensures.first c.new-origin.ensures.last c.new-origin.ensures.text (faithful-text c.in_ok-tree.tree.0 text read.0) in
    (rw read.0 read.1, omega (arith, c.len-size.ensures, size, ap length c.in_ok-text.ensures), untouched)
