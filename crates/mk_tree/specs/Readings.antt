-- The reading of a text: the items of its lines in order.
-- Told in docs/ARCHITECTURE.md, "Where things are".
use Rattle.std.specs.Prelude.{ℕ, List}
use Rattle.mk_class.specs.ClassedLines.{classed_lines}
use Rattle.mk_tree.specs.Items.{Item, items}

-- the reading of a text
abbrev pub reading : List ℕ → List Item
reading t = items (classed_lines t)
