-- What the views of a line show.
use Rattle.std.proofs.Common.{◌≡◌, refl, sym, ap, ◌∙◌, subst, ℕ, List, [], slice_range}
use Rattle.mk_lines.specs.Cells.{Cell, joined_byte, joined_text, line_cells}
use Rattle.mk_lines.specs.Words.{words_in}
use Rattle.mk_class.specs.Texts.{word_texts}
use Rattle.mk_class.specs.Assignments.{Assignment}
use Rattle.mk_class.specs.Classes.{Class}
use Rattle.mk_class.specs.Classes.Class.{Endef, Body, Recipe, Opaque, Blank, Comment, Assign, DefineHead, If, Else, Endif, Directive, TargetAssign, Rough, Header}
use Rattle.mk_class.specs.ClassTable.{class_of}
use Rattle.mk_class.specs.LocatedClasses.{located_class, located_assignment, located_target_assignment, located_header}
use Rattle.mk_class.specs.PartOffsets.{IsPart}
use Rattle.mk_class.specs.LineParts.{IsAssignmentLocated, ArePartsLocated}
use Rattle.mk_class.specs.declared.assignment.Assignment as offsets
use Rattle.mk_class.specs.declared.class.Class.TheVariants as variants
use Rattle.mk_class.proofs.on_classes.FirstWordLemmas.{text_words-words}
use Rattle.mk_class.proofs.on_classes.LinePartLemmas.{line-parts_located, header-located, target-located}
use Rattle.mk_tree.specs.Views.{assignment_at, assignment_in, target_assignment_in, rule_in}
use Rattle.mk_tree.specs.ViewLaws.{ShowsAssignment, SeesAssignment, SeesTargetAssignment, SeesRule, AssignmentsAreSeen, TargetAssignmentsAreSeen, RulesAreSeen}

-- the words of a part
words-shown : (cs : List Cell) (s e : ℕ) (before part : List (List Cell)) → IsPart cs s e before part
    → words_in (slice_range (joined_text cs) s e) ≡ word_texts joined_byte part
words-shown cs s e before part h = sym (text_words-words (slice_range (joined_text cs) s e)) ∙ h.words_are

-- an assignment
assignment-shown : (cs : List Cell) (start : ℕ) (at : offsets.Assignment) (front : List (List Cell)) (a : Assignment Cell) → at.flavor ≡ a.flavor
    → IsAssignmentLocated cs at front a → ShowsAssignment (assignment_at (joined_text cs) start at) a
assignment-shown cs start at front a flavor h = record { name = h.name.text_is; flavor = flavor; value = h.value.text_is }

pub assignments-seen : AssignmentsAreSeen
assignments-seen c l = go (class_of c l) refl
  where
    go : (k : Class Cell) → class_of c l ≡ k → SeesAssignment k (assignment_in (joined_text (line_cells l)) (located_class joined_byte k))
    go (Assign a p) e =
        let s : ArePartsLocated (line_cells l) (class_of c l) (variants.Assign (located_assignment 0 a) p) = line-parts_located c l (variants.Assign (located_assignment 0 a) p) (ap (located_class joined_byte) (sym e)) in
        let f : Assign s.0 p ≡ Assign a p = sym s.1 ∙ e in
        let g : s.0 ≡ a = cc in
        assignment-shown (line_cells l) 0 (located_assignment 0 a) [] a refl (subst (λ (z : Assignment Cell). IsAssignmentLocated (line_cells l) (located_assignment 0 a) [] z) g s.2)
    go Endef e = refl
    go (Body n) e = refl
    go Recipe e = refl
    go Opaque e = refl
    go Blank e = refl
    go Comment e = refl
    go (DefineHead p) e = refl
    go If e = refl
    go Else e = refl
    go Endif e = refl
    go Directive e = refl
    go (TargetAssign t) e = refl
    go Rough e = refl
    go (Header h) e = refl

pub target_assignments-seen : TargetAssignmentsAreSeen
target_assignments-seen c l = go (class_of c l) refl
  where
    go : (k : Class Cell) → class_of c l ≡ k → SeesTargetAssignment k (target_assignment_in (joined_text (line_cells l)) (located_class joined_byte k))
    go (TargetAssign t) e =
        let s = target-located c l t e in
        let at = located_target_assignment t in
        record {
          targets = words-shown (line_cells l) 0 at.targets_end [] t.targets s.targets;
          separator = refl;
          assignment = assignment-shown (line_cells l) _ at.assignment _ t.assigned refl s.assigned;
        }
    go Endef e = refl
    go (Body n) e = refl
    go Recipe e = refl
    go Opaque e = refl
    go Blank e = refl
    go Comment e = refl
    go (Assign a p) e = refl
    go (DefineHead p) e = refl
    go If e = refl
    go Else e = refl
    go Endif e = refl
    go Directive e = refl
    go Rough e = refl
    go (Header h) e = refl

pub rules-seen : RulesAreSeen
rules-seen c l = go (class_of c l) refl
  where
    go : (k : Class Cell) → class_of c l ≡ k → SeesRule k (rule_in (joined_text (line_cells l)) (located_class joined_byte k))
    go (Header h) e =
        let s = header-located c l h e in
        let at = located_header joined_byte h in
        record {
          targets = words-shown (line_cells l) 0 at.targets_end [] h.targets s.targets;
          separator = refl;
          pattern = words-shown (line_cells l) _ _ _ h.pattern s.pattern;
          prereqs = words-shown (line_cells l) at.normal_start at.normal_end _ h.normal s.normal;
          order_only = words-shown (line_cells l) _ at.head_end _ h.order_only s.order_only;
        }
    go Endef e = refl
    go (Body n) e = refl
    go Recipe e = refl
    go Opaque e = refl
    go Blank e = refl
    go Comment e = refl
    go (Assign a p) e = refl
    go (DefineHead p) e = refl
    go If e = refl
    go Else e = refl
    go Endif e = refl
    go Directive e = refl
    go (TargetAssign t) e = refl
    go Rough e = refl
