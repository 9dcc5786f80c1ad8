-- Where a prerequisite stands in the line of a rule, as a document shows the line.
-- Told in docs/ARCHITECTURE.md, "An edit's way, from Edit to moved lines".
use Rattle.std.specs.Prelude.{ℕ, List, ◌++◌}
use Rattle.mk_lines.specs.Cells.{line_cells}
use Rattle.mk_lines.specs.declared.split.Span.{Span}
use Rattle.mk_class.specs.LineParts.{normal_span, order_only_span}
use Rattle.mk_class.specs.declared.rule.Header as header
use Rattle.mk_tree.specs.LocatedLines.{LocatedLine}
use Rattle.mk_edit_parts.specs.RenamedRanges.{part_ranges}

-- the raw ranges of a word among the normal and the order-only prerequisites
abbrev pub prerequisite_ranges : (word : List ℕ) → LocatedLine → header.Header → List Span
prerequisite_ranges w l at =
    part_ranges (line_cells l.bytes) w (normal_span at)
    ++ part_ranges (line_cells l.bytes) w (order_only_span at)
