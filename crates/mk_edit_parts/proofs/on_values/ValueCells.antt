-- The cells of an assignment's line, of which some are its value.
use Rattle.std.proofs.Common.{◌≡◌, ap, ◌∙◌, arith, ℕ, ◌+◌, List, ◌++◌, false, length, Option}
use Rattle.std.specs.Prelude.{nat_lt, slice_range}
use Rattle.mk_lines.specs.Lists.{concat}
use Rattle.mk_lines.specs.Cells.{Cell, joined_byte, line_cells}
use Rattle.mk_lines.specs.CellFaults.{has_stray}
use Rattle.mk_lines.specs.Ranges.{text_at}
use Rattle.mk_lines.specs.Units.{units}
use Rattle.mk_lines.proofs.on_lists.BoolLemmas.{or-left_false}
use Rattle.mk_class.specs.RecipePrefix.{is_prefix_led}
use Rattle.mk_class.specs.Assignments.{Assignment, before_value}
use Rattle.mk_class.specs.Classes.Class.{Assign}
use Rattle.mk_class.specs.Contexts.{Context}
use Rattle.mk_class.specs.ClassTable.{class_of}
use Rattle.mk_class.specs.LocatedClasses.{located_assignment}
use Rattle.mk_class.proofs.on_assignments.AssignmentLineLemmas.{AssignParts, assign_parts}
use Rattle.mk_class.proofs.on_classes.ClassLemmas.{IsAssignLine, plain_class-assign, class_at-assign}
use Rattle.mk_class.proofs.on_classes.PartOffsetLemmas.{width-append}
use Rattle.mk_edit_parts.proofs.on_prerequisites.WordRangeLemmas.{slice-at}

-- a line of class Assign is an assignment's line
assign-line : (c : Context) (l : List ℕ) (a : Assignment Cell) (p : Option ℕ) → class_of c l ≡ Assign a p → IsAssignLine (line_cells l) (units joined_byte (line_cells l)) a
assign-line c l a p h =
    let led = is_prefix_led c.prefix l in
    let r = class_at-assign led c.defines c.flag (nat_lt 0 c.conditionals) (line_cells l) (units joined_byte (line_cells l)) a p h in
    plain_class-assign led (nat_lt 0 c.conditionals) (line_cells l) (units joined_byte (line_cells l)) a p r.here

-- it has no stray bytes
pub assign-no_stray : (c : Context) (l : List ℕ) (a : Assignment Cell) (p : Option ℕ) → class_of c l ≡ Assign a p → has_stray (line_cells l) ≡ false
assign-no_stray c l a p h = or-left_false (has_stray (line_cells l)) _ (assign-line c l a p h).readable

-- the parts of it
pub assign-parts : (c : Context) (l : List ℕ) (a : Assignment Cell) (p : Option ℕ) → class_of c l ≡ Assign a p → AssignParts l a
assign-parts c l a p h = assign_parts l a (assign-line c l a p h)

-- how many cells stand before the value
before-width : (a : Assignment Cell) → (located_assignment 0 a).value.start ≡ length (concat (before_value a))
before-width a =
    let b : length (concat (before_value a)) ≡ length (concat a.before) + length (concat (a.name ++ a.operator)) = width-append a.before (a.name ++ a.operator) in
    let n : length (concat (a.name ++ a.operator)) ≡ length (concat a.name) + length (concat a.operator) = width-append a.name a.operator in
    omega (arith, b, n)

-- the cells of the value
pub value-cells : (c : Context) (l : List ℕ) (a : Assignment Cell) (p : Option ℕ) → class_of c l ≡ Assign a p → text_at (line_cells l) (located_assignment 0 a).value ≡ concat a.value
value-cells c l a p h =
    let P = assign-parts c l a p h in
    let v = (located_assignment 0 a).value in
    let w = before-width a in
    ap (λ cs. slice_range cs v.start v.end) P.cells_are
    ∙ slice-at v.start v.end (concat (before_value a)) (concat a.value) (concat (a.after ++ P.rest)) w (omega (arith, w))
