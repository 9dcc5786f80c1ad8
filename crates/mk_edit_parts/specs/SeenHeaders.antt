-- The line of a rule as a document shows it: the offsets of its parts, and the header whose parts
-- they are.
-- Told in docs/ARCHITECTURE.md, "A line's class".
use Rattle.std.specs.Prelude.{◌≡◌, ◌++◌}
use Rattle.mk_lines.specs.PhysicalLines.{line_end, line_end_bytes}
use Rattle.mk_lines.specs.Cells.{Cell, joined_byte, line_cells, raw_text}
use Rattle.mk_lines.specs.Lists.{concat}
use Rattle.mk_class.specs.Headers
use Rattle.mk_class.specs.Headers.{header_units}
use Rattle.mk_class.specs.LocatedClasses.{located_header}
use Rattle.mk_class.specs.HeaderFits.{FitsHeader}
use Rattle.mk_class.specs.LineParts.{IsHeaderLocated}
use Rattle.mk_class.specs.declared.rule.Header as header
use Rattle.mk_class.specs.declared.class.Class.TheVariants as variants
use Rattle.mk_tree.specs.LocatedLines.{LocatedLine}

-- the line is that of this header, and these are the offsets of its parts
pub record IsHeaderSeen (l : LocatedLine) (at : header.Header) (h : Headers.Header Cell)
    : Type 0 where
  pub cells_are : line_cells l.bytes ≡ concat (header_units h)
  pub whole : l.bytes ≡ raw_text (concat (header_units h)) ++ line_end_bytes (line_end l.bytes)
  pub offsets_are : at ≡ located_header joined_byte h
  pub located : IsHeaderLocated (line_cells l.bytes) at h
  pub fits : FitsHeader joined_byte h

-- the line is that of some header, and these are the offsets of its parts
pub record HasHeader (l : LocatedLine) (at : header.Header) : Type 0 where
  pub header : Headers.Header Cell
  pub seen : IsHeaderSeen l at header

-- the parts of a rule's line stand at these offsets
abbrev pub IsHeaderAt : LocatedLine → header.Header → Type 0
IsHeaderAt l at = l.class ≡ variants.Header at

-- a line is a rule's
pub record IsRuleLine (l : LocatedLine) : Type 0 where
  pub offsets : header.Header
  pub class_is : IsHeaderAt l offsets
