use Rattle.std.proofs.Common.{◌∙◌, sym, arith}
use Rattle.std.proofs.lemmas.List.{length-map}
use Rattle.mk_lines.specs.Cells.{joined_byte, line_cells}
use Rattle.mk_class.proofs.on_classes.LinePartLemmas.{line-parts_located}
use Rattle.mk_tree.specs.Trees.{line_view}
use Rattle.mk_tree.proofs.end.sets_prefix_unread.Goals as goal

pub is_part-requires-clause-within : goal.is_part-requires-clause-within
is_part-requires-clause-within g c =
    let l = line_view c.args.line.now in
    let parts = line-parts_located c.requires.classed.context l.bytes _ (sym (sym c.requires.class ∙ c.in-Assign-default-None.is) ∙ c.requires.classed.class_is) in
    omega (arith, length-map (line_cells l.bytes) joined_byte, parts.2.name.within)
