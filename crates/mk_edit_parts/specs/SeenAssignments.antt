-- The line of an assignment as a document shows it: the offsets of its parts, and the assignment
-- whose parts they are.
-- Told in docs/ARCHITECTURE.md, "A line's class".
use Rattle.std.specs.Prelude.{◌≡◌, ℕ, List, [], ◌++◌, Option}
use Rattle.mk_lines.specs.Cells.{Cell, line_cells}
use Rattle.mk_lines.specs.Lists.{concat}
use Rattle.mk_class.specs.Assignments.{Assignment, before_value}
use Rattle.mk_class.specs.LocatedClasses.{located_assignment}
use Rattle.mk_class.specs.LineParts.{IsAssignmentLocated}
use Rattle.mk_class.specs.declared.assignment.Assignment as assignment
use Rattle.mk_class.specs.declared.class.Class.TheVariants as variants
use Rattle.mk_tree.specs.LocatedLines.{LocatedLine}

-- the line is that of this assignment, after which these cells stand, and these are the offsets of
-- its parts
pub record IsAssignmentSeen (l : LocatedLine) (at : assignment.Assignment) (a : Assignment Cell)
    (rest : List Cell) : Type 0 where
  pub cells_are : line_cells l.bytes
      ≡ concat (before_value a) ++ (concat a.value ++ (concat a.after ++ rest))
  pub offsets_are : at ≡ located_assignment 0 a
  pub located : IsAssignmentLocated (line_cells l.bytes) at [] a

-- the line is that of some assignment, and these are the offsets of its parts
pub record HasAssignment (l : LocatedLine) (at : assignment.Assignment) : Type 0 where
  pub assigned : Assignment Cell
  pub rest : List Cell
  pub seen : IsAssignmentSeen l at assigned rest

-- the parts of an assignment's line stand at these offsets
pub record IsAssignmentAt (l : LocatedLine) (at : assignment.Assignment) : Type 0 where
  pub prefix : Option ℕ
  pub class_is : l.class ≡ variants.Assign at prefix

-- a line is an assignment's
pub record IsAssignmentLine (l : LocatedLine) : Type 0 where
  pub offsets : assignment.Assignment
  pub at : IsAssignmentAt l offsets
