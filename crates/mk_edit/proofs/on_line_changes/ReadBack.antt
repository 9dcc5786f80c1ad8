-- A line that is read in the place of an assignment's line, and what its view shows.
use Rattle.std.proofs.Common.{◌≡◌, refl, sym, ap, ◌∙◌, subst, ℕ, ◌+◌, List, [], ◌++◌, map, append_assoc, Bool, true, false, Option, Some, None}
use Rattle.std.specs.Prelude.{nat_lt, ◌&&◌}
use Rattle.std.specs.Str.{bytes_eq}
use Rattle.std.proofs.lemmas.Slice.Eq.{bytes_eq-Decides}
use Rattle.mk_lines.specs.Cells.{Cell, joined_byte, joined_text, line_cells}
use Rattle.mk_lines.specs.Units.{units}
use Rattle.mk_class.specs.Texts.{unit_text}
use Rattle.mk_class.specs.CutTexts.{cut_text}
use Rattle.mk_class.specs.OperatorTexts.{operator_text}
use Rattle.mk_class.specs.Assignments.{Assignment}
use Rattle.mk_class.specs.RecipePrefix.{is_prefix_led, is_prefix_name}
use Rattle.mk_class.specs.Classes.{Class}
use Rattle.mk_class.specs.Classes.Class.{Endef, Body, Recipe, Opaque, Blank, Comment, Assign, DefineHead, If, Else, Endif, Directive, TargetAssign, Rough, Header}
use Rattle.mk_class.specs.Contexts.{Context}
use Rattle.mk_class.specs.ClassTable.{class_of}
use Rattle.mk_class.specs.LocatedClasses.{width, located_class, located_assignment}
use Rattle.mk_class.specs.PartOffsets.{IsPart}
use Rattle.mk_class.specs.LineParts.{IsAssignmentLocated, ArePartsLocated}
use Rattle.mk_class.specs.declared.assignment.Flavor.{Flavor}
use Rattle.mk_class.specs.declared.class.Class.TheVariants as variants
use Rattle.mk_class.proofs.on_classes.ClassLemmas.{class_at-assign, plain_class-assign}
use Rattle.mk_class.proofs.on_classes.PartOffsetLemmas.{part-is}
use Rattle.mk_class.proofs.on_classes.LinePartLemmas.{line-parts_located}
use Rattle.mk_class.proofs.on_assignments.AssignmentLineLemmas.{assign_parts}
use Rattle.mk_tree.specs.Items.{assigned}
use Rattle.mk_tree.specs.LineTexts.{line_in}
use Rattle.mk_tree.specs.LocatedLines.{LocatedLine, located_line, text_of_line}
use Rattle.mk_tree.specs.Views.{AssignmentView, assignment_at, assignment_in, assignment_of}
use Rattle.mk_edit_language.specs.LineChanges.{is_same_assigned, reads_as, modifier_number}
use Rattle.mk_edit_language.proofs.on_values.FoundAssignments.{no_prefix-set, prefix-of_class}
use Rattle.mk_edit_parts.proofs.on_prerequisites.WordRangeLemmas.{part-words}
use Rattle.mk_edit.specs.LineChangePlans.{IsAssignmentIn, IsAssigning, with_parts, Reads, are_same_texts, is_read_as}
use Rattle.mk_edit.proofs.on_line_changes.ModifierWords.{modifier_text, modifiers-words, same-modifiers}

-- ---- what a view shows

-- a view shows an assignment; its words before the name are the modifiers
record IsShown (v : AssignmentView) (a : Assignment Cell) : Type 0 where
  modifiers : v.modifiers ≡ map modifier_text a.modifiers
  name : v.name ≡ unit_text joined_byte a.name
  flavor : v.flavor ≡ a.flavor
  value : v.value ≡ unit_text joined_byte a.value

-- the view of the assignment in a text
abbrev view_in : (line : List ℕ) → Assignment Cell → AssignmentView
view_in l a = assignment_at (joined_text (line_cells l)) 0 (located_assignment 0 a)

parts-located : (x : Context) (l : List ℕ) (a : Assignment Cell) (p : Option ℕ) → class_of x l ≡ Assign a p → IsAssignmentLocated (line_cells l) (located_assignment 0 a) [] a
parts-located x l a p e =
    let s : ArePartsLocated (line_cells l) (class_of x l) (variants.Assign (located_assignment 0 a) p) = line-parts_located x l (variants.Assign (located_assignment 0 a) p) (ap (located_class joined_byte) (sym e)) in
    let f : Assign s.0 p ≡ Assign a p = sym s.1 ∙ e in
    let g : s.0 ≡ a = cc in
    subst (λ (z : Assignment Cell). IsAssignmentLocated (line_cells l) (located_assignment 0 a) [] z) g s.2

-- the view of a line of this assignment shows it
assignment-shown : (x : Context) (l : List ℕ) (a : Assignment Cell) (p : Option ℕ) → class_of x l ≡ Assign a p → IsShown (view_in l a) a
assignment-shown x l a p e =
    let cs = line_cells l in
    let us = units joined_byte cs in
    let led = is_prefix_led x.prefix l in
    let r = class_at-assign led x.defines x.flag (nat_lt 0 x.conditionals) cs us a p e in
    let i = plain_class-assign led (nat_lt 0 x.conditionals) cs us a p r.here in
    let P = assign_parts l a i in
    let whole : us ≡ a.before ++ ((a.name ++ (a.operator ++ (a.value ++ a.after))) ++ P.rest) =
    P.units_are ∙ (ap (λ z. z ++ P.rest) (sym P.is.whole) ∙ append_assoc a.before (a.name ++ (a.operator ++ (a.value ++ a.after))) P.rest) in
    let before : IsPart cs 0 (0 + width a.before) [] a.before = part-is cs 0 (0 + width a.before) [] a.before _ whole refl refl in
    let h = parts-located x l a p e in
    record {
      modifiers = part-words cs 0 (0 + width a.before) [] a.before before ∙ modifiers-words joined_byte (cut_text joined_byte us) a i.assigned;
      name = h.name.text_is;
      flavor = refl;
      value = h.value.text_is;
    }

-- ---- two assignments

bytes-turned : (x y : List ℕ) → bytes_eq x y ≡ bytes_eq y x
bytes-turned x y = go (bytes_eq x y) (bytes_eq y x) refl refl
  where
    go : (a b : Bool) → bytes_eq x y ≡ a → bytes_eq y x ≡ b → a ≡ b
    go true true h k = refl
    go false false h k = refl
    go true false h k = sym ((bytes_eq-Decides y x).1 (sym ((bytes_eq-Decides x y).0 h))) ∙ k
    go false true h k = sym h ∙ (bytes_eq-Decides x y).1 (sym ((bytes_eq-Decides y x).0 k))

-- two views are the same where the assignments are
views-same : (o n : AssignmentView) (a b : Assignment Cell) (f : Flavor) (v : List ℕ) → IsShown o a → IsShown n b → is_read_as (Some o) (Some n) f v ≡ is_same_assigned (assigned b) (with_parts a f v)
views-same o n a b f v h k =
    let m : are_same_texts o.modifiers n.modifiers ≡ bytes_eq (map modifier_number b.modifiers) (map modifier_number a.modifiers) =
    ap (λ z. are_same_texts z n.modifiers) h.modifiers ∙ (ap (are_same_texts (map modifier_text a.modifiers)) k.modifiers ∙ same-modifiers a.modifiers b.modifiers) in
    let s : bytes_eq o.name n.name ≡ bytes_eq (unit_text joined_byte b.name) (unit_text joined_byte a.name) =
    ap (λ z. bytes_eq z n.name) h.name ∙ (ap (bytes_eq (unit_text joined_byte a.name)) k.name ∙ bytes-turned (unit_text joined_byte a.name) (unit_text joined_byte b.name)) in
    let w : bytes_eq n.value v ≡ bytes_eq (unit_text joined_byte b.value) v = ap (λ z. bytes_eq z v) k.value in
    let g : bytes_eq (operator_text n.flavor) (operator_text f) ≡ bytes_eq (operator_text b.flavor) (operator_text f) = ap (λ z. bytes_eq (operator_text z) (operator_text f)) k.flavor in
    ap (λ z. z && (bytes_eq o.name n.name && (bytes_eq (operator_text n.flavor) (operator_text f) && bytes_eq n.value v))) m
    ∙ ap (λ z. bytes_eq (map modifier_number b.modifiers) (map modifier_number a.modifiers) && z)
    (ap (λ z. z && (bytes_eq (operator_text n.flavor) (operator_text f) && bytes_eq n.value v)) s
    ∙ ap (λ z. bytes_eq (unit_text joined_byte b.name) (unit_text joined_byte a.name) && z)
    (ap (λ z. z && bytes_eq n.value v) g ∙ ap (λ z. bytes_eq (operator_text b.flavor) (operator_text f) && z) w))

-- assignments of two names are not the same
apart-names : (a b : Assignment Cell) (f : Flavor) (v : List ℕ) → bytes_eq (unit_text joined_byte b.name) (unit_text joined_byte a.name) ≡ false → is_same_assigned (assigned b) (with_parts a f v) ≡ false
apart-names a b f v h =
    ap (λ z. bytes_eq (map modifier_number b.modifiers) (map modifier_number a.modifiers) && (z && (bytes_eq (operator_text b.flavor) (operator_text f) && bytes_eq (unit_text joined_byte b.value) v))) h
    ∙ neither (bytes_eq (map modifier_number b.modifiers) (map modifier_number a.modifiers))
  where
    neither : (c : Bool) → (c && false) ≡ false
    neither true = refl
    neither false = refl

-- a line that sets a prefix assigns the name of the prefix
prefix-named : (x : Context) (m : List ℕ) (a b : Assignment Cell) (q : ℕ) → class_of x m ≡ Assign b (Some q) → is_prefix_name (unit_text joined_byte a.name) ≡ false
    → bytes_eq (unit_text joined_byte b.name) (unit_text joined_byte a.name) ≡ false
prefix-named x m a b q e free = go (bytes_eq (unit_text joined_byte b.name) (unit_text joined_byte a.name)) refl
  where
    go : (c : Bool) → bytes_eq (unit_text joined_byte b.name) (unit_text joined_byte a.name) ≡ c → c ≡ false
    go false h = refl
    go true h =
        let n : is_prefix_name (unit_text joined_byte b.name) ≡ false = ap is_prefix_name ((bytes_eq-Decides (unit_text joined_byte b.name) (unit_text joined_byte a.name)).0 h) ∙ free in
        let p : Some q ≡ None = prefix-of_class x m b (Some q) e ∙ no_prefix-set (nat_lt 0 x.conditionals) b n in
        absurd (cc)

-- ---- the line that is read

-- the new line shows the old assignment, with this flavor and this value, where it reads so
reads-shown : (x : Context) (l : LocatedLine) (m : List ℕ) (a : Assignment Cell) (f : Flavor) (v : List ℕ) → IsAssignmentIn x l a → is_prefix_name (unit_text joined_byte a.name) ≡ false
    → is_read_as (assignment_of l) (assignment_of (located_line (line_in x m))) f v ≡ reads_as (with_parts a f v) (class_of x m)
reads-shown x l m a f v h free =
    ap (λ k. is_read_as (assignment_in (text_of_line l) k) (assignment_of (located_line (line_in x m))) f v) h.class_is ∙ go (class_of x m) refl
  where
    assigns : (b : Assignment Cell) (p : Option ℕ) → class_of x m ≡ Assign b p → is_read_as (Some (view_in l.bytes a)) (Some (view_in m b)) f v ≡ reads_as (with_parts a f v) (Assign b p)
    assigns b None e = views-same (view_in l.bytes a) (view_in m b) a b f v (assignment-shown x l.bytes a None h.here) (assignment-shown x m b None e)
    assigns b (Some q) e =
        views-same (view_in l.bytes a) (view_in m b) a b f v (assignment-shown x l.bytes a None h.here) (assignment-shown x m b (Some q) e)
        ∙ apart-names a b f v (prefix-named x m a b q e free)

    go : (k : Class Cell) → class_of x m ≡ k → is_read_as (Some (view_in l.bytes a)) (assignment_in (joined_text (line_cells m)) (located_class joined_byte k)) f v ≡ reads_as (with_parts a f v) k
    go (Assign b p) e = assigns b p e
    go Endef e = refl
    go (Body n) e = refl
    go Recipe e = refl
    go Opaque e = refl
    go Blank e = refl
    go Comment e = refl
    go (DefineHead p) e = refl
    go If e = refl
    go Else e = refl
    go Endif e = refl
    go Directive e = refl
    go (TargetAssign t) e = refl
    go Rough e = refl
    go (Header k) e = refl

-- a line has one assignment in its context
same-assigned : (x : Context) (l : LocatedLine) (a b : Assignment Cell) → IsAssignmentIn x l a → IsAssignmentIn x l b → a ≡ b
same-assigned x l a b h k = let e : Assign a None ≡ Assign b None = sym h.here ∙ k.here in cc

-- what the two views say of a line is what it reads as
pub read-told : (x : Context) (l n : LocatedLine) (m : List ℕ) (f : Flavor) (v : List ℕ) (b : Bool) → IsAssigning x l → n ≡ located_line (line_in x m)
    → is_read_as (assignment_of l) (assignment_of n) f v ≡ b → Reads b x l m f v
read-told x l n m f v b own e h = λ a i.
    let free : is_prefix_name (unit_text joined_byte a.name) ≡ false = ap (λ (z : Assignment Cell). is_prefix_name (unit_text joined_byte z.name)) (same-assigned x l a own.assigned i own.is) ∙ own.free in
    sym (reads-shown x l m a f v i free) ∙ (ap (λ z. is_read_as (assignment_of l) (assignment_of z) f v) (sym e) ∙ h)
