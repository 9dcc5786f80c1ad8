use Rattle.std.proofs.Common.{◌≡◌, ◌∙◌, sym, ap, subst, length}
use Rattle.memchr.specs.Find.{matches}
use Rattle.mk_lines.specs.Cells.{line_cells}
use Rattle.mk_lines.specs.Ranges.{text_at}
use Rattle.mk_tree.specs.LocatedLines.{text_of_line}
use Rattle.mk_tree.specs.Trees.{line_view}
use Rattle.mk_edit_parts.specs.RenamedRanges.{AreWithin}
use Rattle.mk_edit_parts.specs.LineChangePlaces.{text_places, AreNoted}
use Rattle.mk_edit_parts.proofs.on_values.PlacesNoted.{noted-none}
use Rattle.mk_edit_parts.proofs.line_change.with_texts.Goals as goal

pub texts-init : goal.texts-init
texts-init g c =
    let cs = line_cells (line_view c.args.line.now).bytes in
    let t = text_of_line (line_view c.args.line.now) in
    let v = c.args.value in
    let n = length c.args.wanted.now in
    let all = text_places v.start n (matches (text_at t v) c.args.wanted.now 0) in
    let e : c.into_iter-at-iterator.result ≡ matches (text_at t v) c.args.wanted.now 0 =
    c.into_iter-at-iterator.ensures.into_iter_gives ∙ (c.find_iter-at-items.ensures.value ∙ ap (λ z. matches z c.args.wanted.now 0) (c.part-text.ensures ∙ ap (λ z. text_at z v) c.text_of_line.ensures)) in
    (tt, tt, subst (λ is. AreWithin (length cs) (text_places v.start n is)) (sym e) c.requires.can.within, subst (λ is. AreNoted cs all (text_places v.start n is) c.args.places) (sym e) (noted-none cs all c.args.places c.requires.none))
