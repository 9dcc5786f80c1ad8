-- An assignment's line with other cells for its value: one line, of the same assignment with the new value.
use Rattle.std.proofs.Common.{◌≡◌, sym, ap, ◌∙◌, subst, ℕ, List, [], ◌∷◌, ◌++◌, map, true, false, append_assoc, reverse, Option, Some}
use Rattle.std.proofs.lemmas.List.{append-nil, map-append}
use Rattle.std.specs.Prelude.{nat_lt}
use Rattle.mk_lines.specs.Lists.{concat, leading, Each}
use Rattle.mk_lines.proofs.on_lists.ListLemmas.{concat-append, Each-append, Each-left, Each-right, leading-each, leading-append_all}
use Rattle.mk_lines.specs.PhysicalLines.{line_end, line_end_bytes, without_line_end}
use Rattle.mk_lines.specs.Cells.{Cell, Byte, joined_byte, raw_text, line_cells}
use Rattle.mk_lines.specs.CellFaults.{has_stray}
use Rattle.mk_lines.proofs.on_cells.CellLemmas.{raw_text-append, raw_text-cells}
use Rattle.mk_lines.proofs.on_lines.LineLemmas.{OneLine, EndsBefore}
use Rattle.mk_lines.proofs.on_lines.LineEndLemmas.{KeepsApart, without_line_end-line_end}
use Rattle.mk_lines.proofs.on_cells.LineOfCells.{is_reset, is_reset_kind}
use Rattle.mk_lines.proofs.on_cells.LineCells.{AreLineCells, AreLineCells-left, AreLineCells-right, EndLineBefore, EndLineBefore-tail, EndLineBefore-last, KeepsApart-tail, KeepsApart-last, IsLineOf, line-of_cells}
use Rattle.mk_lines.proofs.on_cells.CellsReplaced.{IsSafeTail, ends_ordinary, ends_ordinary-split}
use Rattle.mk_lines.specs.Units.{units, is_closed}
use Rattle.mk_lines.proofs.on_units.UnitLemmas.{concat-units, units-replaced}
use Rattle.mk_class.specs.CutTexts.{cut_text, is_no_hash}
use Rattle.mk_class.specs.Assignments.{Assignment, assignment, before_value}
use Rattle.mk_class.proofs.on_assignments.AssignmentsWhole.{AreValue, assignment_units, operator-closed}
use Rattle.mk_class.proofs.on_assignments.AssignmentLineLemmas.{AssignParts, cells-before, some_raw, led-same, cells_class}
use Rattle.mk_class.specs.Classes.Class.{Assign}
use Rattle.mk_class.specs.RecipePrefix.{is_prefix_led, prefix_set_by}
use Rattle.mk_class.specs.Contexts.{Context}
use Rattle.mk_class.specs.ClassTable.{class_of, is_unreadable}
use Rattle.mk_class.proofs.on_classes.ClassLemmas.{IsAssignLine, plain_class-assign, assign-plain_class, class_at-assign, readable-replaced, assignment-filled}

-- cells that may be the value of an assignment, with these units of blanks after it
pub record IsValue (V : List Cell) (G : List (List Cell)) : Type 0 where
  pub closed : is_closed joined_byte V ≡ true
  pub no_hash : Each (is_no_hash joined_byte) (units joined_byte V)
  pub are_value : AreValue joined_byte (units joined_byte V) G
  pub no_stray : has_stray V ≡ false

-- the assignment with these cells as its value
abbrev pub with_cells : Assignment Cell → List Cell → List (List Cell) → Assignment Cell
with_cells a V G = record a { value = units joined_byte V; after = G }

-- the cells of its line
abbrev pub cells_with : (a : Assignment Cell) → (V : List Cell) → (G rest : List (List Cell)) → List Cell
cells_with a V G R = concat (before_value a) ++ (V ++ concat (G ++ R))

-- the units of an assignment's line, of which X are the value and some of the blanks after it
pub parts-units : (l : List ℕ) (a : Assignment Cell) (X G : List (List Cell)) (p : AssignParts l a) → a.value ++ a.after ≡ X ++ G
    → units joined_byte (line_cells l) ≡ before_value a ++ (X ++ (G ++ p.rest))
parts-units l a X G p h =
    let s : assignment_units a ++ p.rest ≡ before_value a ++ ((a.value ++ a.after) ++ p.rest) = simp append_assoc in
    let r : before_value a ++ ((X ++ G) ++ p.rest) ≡ before_value a ++ (X ++ (G ++ p.rest)) = simp append_assoc in
    p.units_are ∙ (ap (λ z. z ++ p.rest) (sym p.is.whole) ∙ (s ∙ (ap (λ z. before_value a ++ (z ++ p.rest)) h ∙ r)))

-- the cells of such a line
pub parts-cells : (l : List ℕ) (a : Assignment Cell) (X G : List (List Cell)) (p : AssignParts l a) → a.value ++ a.after ≡ X ++ G
    → line_cells l ≡ cells_with a (concat X) G p.rest
parts-cells l a X G p h =
    sym (concat-units joined_byte (line_cells l))
    ∙ (ap concat (parts-units l a X G p h) ∙ (concat-append (before_value a) (X ++ (G ++ p.rest)) ∙ ap (λ z. concat (before_value a) ++ z) (concat-append X (G ++ p.rest))))

-- the new cells are an assignment
assign_line-with : (l : List ℕ) (a : Assignment Cell) (V : List Cell) (X G : List (List Cell)) (p : AssignParts l a) → a.value ++ a.after ≡ X ++ G → IsValue V G
    → is_unreadable (cells_with a V G p.rest) ≡ false
    → IsAssignLine (cells_with a V G p.rest) (units joined_byte (cells_with a V G p.rest)) (with_cells a V G)
assign_line-with l a V X G p h v r =
    let B = before_value a in
    let U = units joined_byte V in
    let test = is_no_hash joined_byte in
    let us = units joined_byte (line_cells l) in
    let e : us ≡ B ++ (X ++ (G ++ p.rest)) = parts-units l a X G p h in
    let u : units joined_byte (cells_with a V G p.rest) ≡ B ++ (U ++ (G ++ p.rest)) =
    units-replaced joined_byte (line_cells l) V B X (G ++ p.rest) (operator-closed joined_byte (line_cells l) a (X ++ (G ++ p.rest)) p.is.operator_ends e) e v.closed in
    let s : assignment_units a ≡ B ++ (a.value ++ a.after) = simp append_assoc in
    let old : Each test (B ++ (X ++ G)) = subst (λ z. Each test (B ++ z)) h (subst (Each test) s (subst (Each test) (sym p.is.whole) (leading-each test us))) in
    let new : Each test (B ++ (U ++ G)) =
    Each-append test B (U ++ G) (Each-left test B (X ++ G) old) (Each-append test U G v.no_hash (Each-right test X G (Each-right test B (X ++ G) old))) in
    let split : B ++ (U ++ (G ++ p.rest)) ≡ (B ++ (U ++ G)) ++ p.rest = simp append_assoc in
    let cut : cut_text joined_byte (B ++ (U ++ (G ++ p.rest))) ≡ B ++ (U ++ G) = ap (leading test) split ∙ leading-append_all test (B ++ (U ++ G)) p.rest new p.stops in
    let form : B ++ (U ++ G) ≡ a.before ++ (a.name ++ (a.operator ++ (U ++ G))) = simp append_assoc in
    let k : assignment joined_byte (cut_text joined_byte (units joined_byte (cells_with a V G p.rest))) ≡ Some (with_cells a V G) =
    ap (λ z. assignment joined_byte (cut_text joined_byte z)) u ∙ (ap (assignment joined_byte) (cut ∙ form) ∙ p.is.again U G v.are_value) in
    record {
      filled = assignment-filled (cut_text joined_byte (units joined_byte (cells_with a V G p.rest))) (with_cells a V G) k;
      readable = r;
      assigned = k;
    }

-- ---- the line

-- the bytes of a line of these cells, with a line end
abbrev pub line_of : List Cell → (end : List ℕ) → List ℕ
line_of cs e = raw_text cs ++ e

-- an assignment's line with these cells as its value: one line before the lines below, of the same assignment
pub record IsValueLine (c : Context) (l : List ℕ) (below : List (List ℕ)) (a : Assignment Cell) (V : List Cell) (G rest : List (List Cell)) : Type 0 where
  pub one : OneLine (line_of (cells_with a V G rest) (line_end_bytes (line_end l)))
  pub ends : EndsBefore (line_of (cells_with a V G rest) (line_end_bytes (line_end l))) below
  pub class : class_of c (line_of (cells_with a V G rest) (line_end_bytes (line_end l))) ≡ Assign (with_cells a V G) (prefix_set_by joined_byte (nat_lt 0 c.conditionals) (with_cells a V G))

-- the line is such a line if its bytes are a line of these cells
pub value-line_of : (c : Context) (l : List ℕ) (below : List (List ℕ)) (a : Assignment Cell) (sets : Option ℕ) (V : List Cell) (X G : List (List Cell)) → class_of c l ≡ Assign a sets
    → (p : AssignParts l a) → a.value ++ a.after ≡ X ++ G → IsValue V G → AreLineCells (cells_with a V G p.rest)
    → IsLineOf (line_of (cells_with a V G p.rest) (line_end_bytes (line_end l))) (cells_with a V G p.rest) (line_end l) below
    → IsValueLine c l below a V G p.rest
value-line_of c l below a sets V X G h p x v g line =
    let led = is_prefix_led c.prefix l in
    let r = class_at-assign led c.defines c.flag (nat_lt 0 c.conditionals) (line_cells l) (units joined_byte (line_cells l)) a sets h in
    let i = plain_class-assign led (nat_lt 0 c.conditionals) (line_cells l) (units joined_byte (line_cells l)) a sets r.here in
    let P = concat (before_value a) in
    let Q = concat (G ++ p.rest) in
    let end = line_end_bytes (line_end l) in
    let C = cells_with a V G p.rest in
    let m = line_of C end in
    let old : line_cells l ≡ P ++ (concat X ++ Q) = parts-cells l a X G p x in
    let can : is_unreadable C ≡ false = readable-replaced P (concat X) V Q (subst (λ z. is_unreadable z ≡ false) old i.readable) v.no_stray g in
    let b = cells-before a p.is.operator_ends in
    let s = some_raw P b.0 b.1 b.2 (AreLineCells-left P (V ++ Q) g) in
    let whole : l ≡ raw_text P ++ (raw_text (concat X ++ Q) ++ end) =
    sym (without_line_end-line_end l) ∙ (ap (λ z. z ++ end) (sym (raw_text-cells (without_line_end l)) ∙ (ap raw_text old ∙ raw_text-append P (concat X ++ Q))) ∙ append_assoc (raw_text P) (raw_text (concat X ++ Q)) end) in
    let new : m ≡ raw_text P ++ (raw_text (V ++ Q) ++ end) = ap (λ z. z ++ end) (raw_text-append P (V ++ Q)) ∙ append_assoc (raw_text P) (raw_text (V ++ Q)) end in
    let same : is_prefix_led c.prefix m ≡ led =
    ap (is_prefix_led c.prefix) new ∙ (led-same c.prefix (raw_text P) (raw_text (V ++ Q) ++ end) (raw_text (concat X ++ Q) ++ end) s.0 s.1 s.2 ∙ sym (ap (is_prefix_led c.prefix) whole)) in
    record {
      one = line.one;
      ends = line.ends;
      class =
          ap (λ z. cells_class c z (line_cells m)) same
          ∙ (ap (λ z. cells_class c led z) line.same_cells
          ∙ (r.also C (units joined_byte C)
          ∙ assign-plain_class led (nat_lt 0 c.conditionals) C (units joined_byte C) (with_cells a V G) (assign_line-with l a V X G p x v can)));
    }

-- the bytes of such a line begin with the bytes before the value
pub line_of-some : (l : List ℕ) (a : Assignment Cell) (V : List Cell) (G : List (List Cell)) (p : AssignParts l a) (end : List ℕ) → AreLineCells (cells_with a V G p.rest)
    → (b : ℕ) × (r : List ℕ) × (line_of (cells_with a V G p.rest) end ≡ b ∷ r)
line_of-some l a V G p end g =
    let P = concat (before_value a) in
    let R = V ++ concat (G ++ p.rest) in
    let b = cells-before a p.is.operator_ends in
    let s = some_raw P b.0 b.1 b.2 (AreLineCells-left P R g) in
    (s.0, s.1 ++ (raw_text R ++ end), ap (λ z. z ++ end) (raw_text-append P R) ∙ (append_assoc (raw_text P) (raw_text R) end ∙ ap (λ z. z ++ (raw_text R ++ end)) s.2))

-- the line is such a line if a line end stays apart from the cells, and ends them before other lines
pub value-line : (c : Context) (l : List ℕ) (below : List (List ℕ)) (a : Assignment Cell) (sets : Option ℕ) (V : List Cell) (X G : List (List Cell)) → class_of c l ≡ Assign a sets
    → (p : AssignParts l a) → a.value ++ a.after ≡ X ++ G → IsValue V G → AreLineCells (cells_with a V G p.rest)
    → KeepsApart (line_end l) (reverse (raw_text (cells_with a V G p.rest))) → EndLineBefore (line_end l) (cells_with a V G p.rest) below
    → IsValueLine c l below a V G p.rest
value-line c l below a sets V X G h p x v g k n =
    let s = line_of-some l a V G p (line_end_bytes (line_end l)) g in
    value-line_of c l below a sets V X G h p x v g (line-of_cells (cells_with a V G p.rest) (line_end l) below s.0 s.1 g k n s.2)

-- ---- line ends

-- Cells that end in a text with a last ordinary byte, and then in cells as before: a line end stays apart from them, and ends
-- them before other lines, as it did before.
pub text-ends : (l : List ℕ) (below : List (List ℕ)) (O N Q : List Cell) (v : List ℕ) → IsSafeTail Q → AreLineCells (O ++ Q) → AreLineCells (N ++ (map Byte v ++ Q)) → ends_ordinary v ≡ true
    → KeepsApart (line_end l) (reverse (raw_text (O ++ Q))) → EndLineBefore (line_end l) (O ++ Q) below
    → KeepsApart (line_end l) (reverse (raw_text (N ++ (map Byte v ++ Q)))) × EndLineBefore (line_end l) (N ++ (map Byte v ++ Q)) below
text-ends l below O N [] v t h g o k n =
    let s = ends_ordinary-split v o in
    let r : is_reset (Byte s.1) ≡ true = ap is_reset_kind s.3 in
    let e : N ++ (map Byte v ++ []) ≡ (N ++ map Byte s.0) ++ Byte s.1 ∷ [] =
    ap (λ z. N ++ z) (append-nil (map Byte v) ∙ (ap (map Byte) s.2 ∙ map-append Byte s.0 (s.1 ∷ []))) ∙ sym (append_assoc N (map Byte s.0) (Byte s.1 ∷ [])) in (
      subst (λ z. KeepsApart (line_end l) (reverse (raw_text z))) (sym e) (KeepsApart-last (line_end l) (N ++ map Byte s.0) s.1 r),
      subst (λ z. EndLineBefore (line_end l) z below) (sym e) (EndLineBefore-last (line_end l) (O ++ []) (N ++ map Byte s.0) (Byte s.1) below r h (subst AreLineCells e g) n),
    )
text-ends l below O N (d ∷ D) v t h g o k n =
    let after : N ++ (map Byte v ++ (d ∷ D)) ≡ (N ++ map Byte v) ++ (d ∷ D) = sym (append_assoc N (map Byte v) (d ∷ D)) in
    let tail : AreLineCells (d ∷ D) = AreLineCells-right O (d ∷ D) h in (
      subst (λ z. KeepsApart (line_end l) (reverse (raw_text z))) (sym after) (KeepsApart-tail (line_end l) O (N ++ map Byte v) d D t tail.are_cells.0 k),
      subst (λ z. EndLineBefore (line_end l) z below) (sym after) (EndLineBefore-tail (line_end l) O (N ++ map Byte v) d D below t h (subst AreLineCells after g) n),
    )
