-- The line of an assignment that an edit means, and where its value stands among the line's bytes.
use Rattle.std.proofs.Common.{◌≡◌, sym, ap, ◌∙◌, subst, arith, ℕ, ◌+◌, ◌<◌, ◌≤◌, List, [], Bool, true, false, if◌then◌else◌, length, Option, Some, None}
use Rattle.std.specs.Prelude.{slice_get}
use Rattle.mk_lines.specs.Cells.{Cell, joined_byte, line_cells}
use Rattle.mk_lines.specs.Ranges.{raw_offset}
use Rattle.mk_lines.specs.declared.split.Span.{Span}
use Rattle.mk_class.specs.Assignments.{Assignment, before_value}
use Rattle.mk_class.specs.RecipePrefix.{is_prefix_name}
use Rattle.mk_class.specs.Classes.Class.{Assign}
use Rattle.mk_class.specs.LocatedClasses.{located_class, located_assignment}
use Rattle.mk_class.specs.ClassTable.{class_of}
use Rattle.mk_class.specs.Contexts.{Context}
use Rattle.mk_class.specs.ClassedLines.{classed_lines}
use Rattle.mk_class.specs.LineParts.{IsAssignmentLocated}
use Rattle.mk_class.proofs.on_classes.LinePartLemmas.{line-parts_located}
use Rattle.mk_class.specs.declared.class.Class.TheVariants as variants
use Rattle.mk_class.specs.PartOffsets.{raw_width}
use Rattle.mk_tree.specs.Documents.{IsFaithful}
use Rattle.mk_tree.specs.LocatedLines.{LocatedLine, located_line, located_text}
use Rattle.mk_tree.specs.LineTexts.{StandingLine}
use Rattle.mk_edit_language.specs.Edits.{Edit}
use Rattle.mk_edit_language.specs.Addresses.{Address, Variable, address, found}
use Rattle.mk_edit_language.specs.AddressCauses.{no_such_line, ambiguous_line}
use Rattle.mk_edit_language.proofs.on_edits.Accepted.{where_holds-none}
use Rattle.mk_edit_language.proofs.on_values.FoundAssignments.{FoundAssignment, assignment-found}
use Rattle.mk_edit_parts.specs.Found.{IsAddressed, IsFoundAt, IsMeant, IsPlaceOf}
use Rattle.mk_edit_parts.specs.LineRanges.{value_range_located}
use Rattle.mk_edit_parts.specs.declared.seek.Found.{Found}
use Rattle.mk_edit_parts.proofs.on_finding.PlaceLemmas.{line-at}
use Rattle.mk_edit_parts.proofs.on_prerequisites.RawPartLemmas.{raw-within}
use Rattle.mk_edit_parts.proofs.on_new_lines.NewLinePlaces.{found-place}

-- ---- the range of a value

-- where the value of an assignment's line stands, with the blanks and folds after it if `b` says so
pub record IsValueRange (l : List ℕ) (a : Assignment Cell) (b : Bool) (r : Span) : Type 0 where
  pub start_is : r.start ≡ raw_width (before_value a)
  pub end_is : r.end ≡ raw_width (before_value a) + raw_width a.value + (if b then raw_width a.after else 0)
  pub rises : r.start ≤ r.end
  pub within : r.end ≤ length l

-- the parts of an assignment's line
pub assignment-located : (c : Context) (l : List ℕ) (a : Assignment Cell) → class_of c l ≡ Assign a None → IsAssignmentLocated (line_cells l) (located_assignment 0 a) [] a
assignment-located c l a h =
    let P = line-parts_located c l (variants.Assign (located_assignment 0 a) None) (sym (ap (located_class joined_byte) h)) in
    let e : Assign P.0 None ≡ Assign a None = sym P.1 ∙ h in
    let same : P.0 ≡ a = cc in
    subst (λ (z : Assignment Cell). IsAssignmentLocated (line_cells l) (located_assignment 0 a) [] z) same P.2

pub value-range : (c : Context) (l : List ℕ) (a : Assignment Cell) (b : Bool) → class_of c l ≡ Assign a None
    → IsValueRange l a b (value_range_located b (record { bytes = l; class = located_class joined_byte (Assign a None) }))
value-range c l a b h =
    let P = assignment-located c l a h in
    let at = located_assignment 0 a in
    let cs = line_cells l in
    let s : raw_offset cs at.value.start ≡ raw_width (before_value a) = P.value.raw_start in
    let v : raw_offset cs at.value.end ≡ raw_width (before_value a) + raw_width a.value = P.value.raw_end in
    let w : raw_offset cs at.end ≡ raw_offset cs at.value.end + raw_width a.after = P.after.raw_end ∙ ap (λ n. n + raw_width a.after) (sym P.after.raw_start) in
    go b s v w
  where
    go : (b : Bool) → raw_offset (line_cells l) (located_assignment 0 a).value.start ≡ raw_width (before_value a)
        → raw_offset (line_cells l) (located_assignment 0 a).value.end ≡ raw_width (before_value a) + raw_width a.value
        → raw_offset (line_cells l) (located_assignment 0 a).end ≡ raw_offset (line_cells l) (located_assignment 0 a).value.end + raw_width a.after
        → IsValueRange l a b (value_range_located b (record { bytes = l; class = located_class joined_byte (Assign a None) }))
    go true s v w = record { start_is = s; end_is = omega (arith, v, w); rises = omega (arith, s, v, w); within = raw-within l (located_assignment 0 a).end }
    go false s v w = record { start_is = s; end_is = omega (arith, v); rises = omega (arith, s, v); within = raw-within l (located_assignment 0 a).value.end }

-- ---- the line of a variable

-- what is known of the place of an edit of a variable
pub record IsVariablePlace (ls : List LocatedLine) (f : Found) : Type 0 where
  pub within : f.at < length ls
  pub place : IsPlaceOf ls f

pub variable-place : (e : Edit) (ls : List LocatedLine) (f : Found) (a : Address) → IsFaithful ls → address e ≡ Some a → IsAddressed e ls f → IsVariablePlace ls f
variable-place e ls f a h is A =
    let F = subst (λ o. IsMeant (classed_lines (located_text ls)) o f) is A.meant in
    record { within = (line-at ls a f h F).within; place = found-place ls a f F }

-- what is known of the line that the address of an assignment means
pub record IsValuePlace (ls : List LocatedLine) (a : Address) (f : Found) (l : LocatedLine) : Type 0 where
  pub spot : StandingLine
  pub place_is : length spot.above ≡ f.at
  pub found_is : found (classed_lines (located_text ls)) a ≡ Some spot
  pub assigned : Assignment Cell
  pub class_is : spot.line.class ≡ Assign assigned None
  pub here : class_of f.context spot.line.bytes ≡ Assign assigned None
  pub line_is : l ≡ located_line spot.line

pub value-place : (ls : List LocatedLine) (a : Address) (f : Found) (l : LocatedLine) → IsFaithful ls → FoundAssignment (located_text ls) a
    → IsFoundAt (classed_lines (located_text ls)) a f → Some l ≡ slice_get ls f.at → IsValuePlace ls a f l
value-place ls a f l h A F g =
    let s = F.spot in
    let L = line-at ls a f h F in
    let e : Some A.spot ≡ Some s = sym A.found_is ∙ F.found_is in
    let same : A.spot ≡ s = cc in
    let class_is : s.line.class ≡ Assign A.assigned None = ap (λ (z : StandingLine). z.line.class) (sym same) ∙ A.class_is in
    let shown : Some l ≡ Some (located_line s.line) = g ∙ L.line_is in
    record {
      spot = s;
      place_is = F.place_is;
      found_is = F.found_is;
      assigned = A.assigned;
      class_is = class_is;
      here = L.class_is ∙ class_is;
      line_is = cc;
    }

-- the assignment of a name that is found, if the name is not that of the prefix
pub variable-found : (t n : List ℕ) (nth : Option ℕ) → no_such_line (classed_lines t) (Some (Variable nth n)) ≡ None → ambiguous_line (classed_lines t) (Some (Variable nth n)) ≡ None → is_prefix_name n ≡ false
    → FoundAssignment t (Variable nth n)
variable-found t n nth there one free = assignment-found t n nth (where_holds-none _ _ there) (where_holds-none _ _ one) free
