use Rattle.std.proofs.Common.{◌≤◌, ◌∙◌, ◌++◌, refl, ap, sym, subst, drop, length}
use Rattle.mk_lines.specs.PhysicalLines.{line_end, line_end_bytes}
use Rattle.mk_lines.specs.Cells.{line_cells, raw_text}
use Rattle.mk_tree.specs.Trees.{line_view}
use Rattle.mk_tree.specs.LocatedLines.{text_of_line}
use Rattle.mk_edit_parts.specs.WordCuts.{raw_between}
use Rattle.mk_edit_parts.specs.NewPrerequisites.{after_new, before_new, offset_of_new}
use Rattle.mk_edit_parts.proofs.on_prerequisites.HeaderBytes.{header-with, five-joined, new-within}
use Rattle.mk_edit_parts.proofs.prerequisite.with_prerequisite.Goals as goal

pub raw_part-requires-clause-within : goal.raw_part-requires-clause-within
raw_part-requires-clause-within g c =
    let l = line_view c.args.line.now in
    let H = c.requires.header in
    subst (λ n. n ≤ length (line_cells l.bytes)) (sym c.offset_of_new-offset.ensures) (new-within c.args.order l c.args.header H.header H.seen)

pub raw_rest-requires : goal.raw_rest-requires
raw_rest-requires g c =
    let l = line_view c.args.line.now in
    let H = c.requires.header in
    record { within = subst (λ n. n ≤ length (line_cells l.bytes)) (sym c.offset_of_new-offset.ensures) (new-within c.args.order l c.args.header H.header H.seen) }

pub returns : goal.returns
returns g c = λ h S.
    let l = line_view c.args.line.now in
    let cs = line_cells l.bytes in
    let at = c.args.header in
    let o = c.args.order in
    let p = offset_of_new o (text_of_line l) at in
    let E = line_end_bytes (line_end l.bytes) in
    let n = c.offset_of_new-offset.ensures in
    five-joined _ _ _ _ _ _ _ _ _ _ _ (raw_between cs 0 p) (before_new o at) c.args.word.now (after_new o p at) (raw_text (drop p cs) ++ E) c.in_ok-bytes.ensures.items c.in_ok-extend_from_slice.ensures.items
    c.in_ok-extend_from_slice-2.ensures.items c.in_ok-extend_from_slice-3.ensures.items c.in_ok-extend_from_slice-4.ensures.items c.in_ok-extend_from_slice-5.ensures.items
    (c.raw_part.ensures ∙ ap (raw_between cs 0) n) c.before_new.ensures refl (c.after_new.ensures ∙ ap (λ k. after_new o k at) n) (c.raw_rest.ensures ∙ ap (λ k. raw_text (drop k cs) ++ E) n)
    ∙ header-with o l at h c.args.word.now E S
