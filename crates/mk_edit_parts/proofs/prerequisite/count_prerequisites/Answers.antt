use Rattle.std.proofs.Common.{refl}
use Rattle.mk_lines.specs.Cells.{line_cells}
use Rattle.mk_class.specs.LineParts.{normal_span, order_only_span}
use Rattle.mk_tree.specs.Trees.{line_view}
use Rattle.mk_edit_parts.proofs.on_prerequisites.ReplacedPrerequisites.{counted-lists, front-lacks, room-for}
use Rattle.mk_edit_parts.proofs.prerequisite.count_prerequisites.Goals as goal

pub count_in_part-found-requires-clause-few : goal.count_in_part-found-requires-clause-few
count_in_part-found-requires-clause-few g c =
    (room-for (line_cells (line_view c.args.line.now).bytes) c.args.word.now c.normal.result (order_only_span c.args.header) (normal_span c.args.header) (order_only_span c.args.header) c.none.result _ c.none.ensures c.normal.ensures refl refl
    c.requires.few c.requires.few_bytes).first_words

pub count_in_part-found-requires-clause-few_bytes : goal.count_in_part-found-requires-clause-few_bytes
count_in_part-found-requires-clause-few_bytes g c =
    (room-for (line_cells (line_view c.args.line.now).bytes) c.args.word.now c.normal.result (order_only_span c.args.header) (normal_span c.args.header) (order_only_span c.args.header) c.none.result _ c.none.ensures c.normal.ensures refl refl
    c.requires.few c.requires.few_bytes).first_bytes

pub count_in_part-found-requires-clause-passed : goal.count_in_part-found-requires-clause-passed
count_in_part-found-requires-clause-passed g c passed = front-lacks _ c.args.word.now c.normal.result passed

pub count_in_part-requires-clause-few : goal.count_in_part-requires-clause-few
count_in_part-requires-clause-few g c =
    rw c.order_only.ensures
    (room-for (line_cells (line_view c.args.line.now).bytes) c.args.word.now c.normal.result (order_only_span c.args.header) (normal_span c.args.header) (order_only_span c.args.header) c.none.result c.count_in_part-found.result c.none.ensures
    c.normal.ensures refl c.count_in_part-found.ensures c.requires.few c.requires.few_bytes).words

pub count_in_part-requires-clause-few_bytes : goal.count_in_part-requires-clause-few_bytes
count_in_part-requires-clause-few_bytes g c =
    rw c.order_only.ensures
    (room-for (line_cells (line_view c.args.line.now).bytes) c.args.word.now c.normal.result (order_only_span c.args.header) (normal_span c.args.header) (order_only_span c.args.header) c.none.result c.count_in_part-found.result c.none.ensures
    c.normal.ensures refl c.count_in_part-found.ensures c.requires.few c.requires.few_bytes).bytes

pub count_in_part-requires-clause-passed : goal.count_in_part-requires-clause-passed
count_in_part-requires-clause-passed g c passed = front-lacks _ c.args.word.now c.order_only.result passed

pub returns : goal.returns
returns g c =
    counted-lists (line_cells (line_view c.args.line.now).bytes) c.args.word.now c.normal.result c.order_only.result (normal_span c.args.header) (order_only_span c.args.header) c.none.result c.count_in_part-found.result c.count_in_part.result c.none.ensures
    c.normal.ensures c.order_only.ensures c.count_in_part-found.ensures c.count_in_part.ensures
