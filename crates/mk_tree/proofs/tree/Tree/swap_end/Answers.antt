use Rattle.std.proofs.Common.{◌≡◌, ◌-◌, ◌∙◌, ap, sym, arith, length, Some}
use Rattle.mk_lines.specs.PhysicalLines.{without_line_end}
use Rattle.mk_tree.specs.LocatedLines.{bytes_of_line, last_line, size_of_line}
use Rattle.mk_tree.specs.Trees.{line_view}
use Rattle.mk_tree.proofs.Ends.{last-index, with_bytes, with_last-index}
use Rattle.mk_tree.proofs.tree.Tree.swap_end.Goals as goal

pub swap_bytes-old-requires-clause-same_text : goal.swap_bytes-old-requires-clause-same_text
swap_bytes-old-requires-clause-same_text g c =
    let last : last_line c.args.self.0 ≡ Some (line_view c.remove-rest.result.1) = last-index _ _ (c.len-at.result - 1) c.requires.some_lines (omega (arith, c.len-at.ensures.len)) c.remove-rest.ensures.line in
    c.requires.same_text ∙ (ap (λ z. without_line_end (bytes_of_line z)) last ∙ ap (λ n. without_line_end n.content.bytes) (sym c.deref_mut.ensures.value))

pub insert-requires-clause-fits : goal.insert-requires-clause-fits
insert-requires-clause-fits g c =
    let last : last_line c.args.self.0 ≡ Some (line_view c.remove-rest.result.1) = last-index _ _ (c.len-at.result - 1) c.requires.some_lines (omega (arith, c.len-at.ensures.len)) c.remove-rest.ensures.line in
    omega (arith, c.requires.fits, c.remove-rest.ensures.size, ap size_of_line last, ap length c.swap_bytes-old.ensures.bytes)

pub returns-clause-lines : goal.returns-clause-lines
returns-clause-lines g c =
    with_last-index c.args.bytes c.args.self.0 _ _ (line_view c.remove-rest.result.1) _ (c.len-at.result - 1) c.requires.some_lines (omega (arith, c.len-at.ensures.len)) c.remove-rest.ensures.line c.remove-rest.ensures.lines
    (with_bytes c.swap_bytes-old.new.self (line_view c.remove-rest.result.1) c.args.bytes c.swap_bytes-old.ensures.bytes (c.swap_bytes-old.ensures.class ∙ ap (λ n. n.content.class) c.deref_mut.ensures.value)) c.insert.ensures.lines

pub returns-clause-old : goal.returns-clause-old
returns-clause-old g c =
    let last : last_line c.args.self.0 ≡ Some (line_view c.remove-rest.result.1) = last-index _ _ (c.len-at.result - 1) c.requires.some_lines (omega (arith, c.len-at.ensures.len)) c.remove-rest.ensures.line in
    c.swap_bytes-old.ensures.old ∙ (ap (λ n. n.content.bytes) c.deref_mut.ensures.value ∙ sym (ap bytes_of_line last))
