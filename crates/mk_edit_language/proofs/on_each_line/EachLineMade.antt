-- One line after an edit of several lines that is checked by reading, between the others as they were.
use Rattle.std.proofs.Common.{◌≡◌, refl, sym, ap, ◌∙◌, subst, ℕ, List, [], ◌∷◌, ◌++◌, Bool, true, false, not, ◌&&◌, ◌||◌, cond, length, ◌+◌, None}
use Rattle.std.proofs.lemmas.Bool.{and_parts, not-false}
use Rattle.std.proofs.lemmas.Slice.Eq.{bytes_eq-Decides}
use Rattle.std.specs.List.{list_any}
use Rattle.std.specs.Str.{bytes_eq}
use Rattle.mk_lines.specs.LogicalLines.{EndsWhereFollowed, logical_lines, is_open, ends_line}
use Rattle.mk_lines.specs.Cells.{Cell}
use Rattle.mk_lines.specs.Pieces.{replaced, new_bytes}
use Rattle.mk_lines.proofs.on_lines.LineLemmas.{OneLine-logical, concat-logical_lines}
use Rattle.mk_lines.proofs.on_lines.LineEndLemmas.{EndsWhereFollowed-of}
use Rattle.mk_class.specs.Assignments.{Assignment}
use Rattle.mk_class.specs.Classes.{Class, is_recipe, is_conditional}
use Rattle.mk_class.specs.Classes.Class.{Assign}
use Rattle.mk_class.specs.Contexts.{context_after}
use Rattle.mk_class.specs.ClassTable.{class_of}
use Rattle.mk_class.specs.ClassedLines.{ClassedLine, classed_lines}
use Rattle.mk_tree.specs.Documents.{text_of, context_of}
use Rattle.mk_tree.specs.Items.{Assigned, Recipe, Assign as AssignItem, items_of_line}
use Rattle.mk_tree.specs.LineTexts.{bytes_of}
use Rattle.mk_tree.proofs.on_documents.LinesInText.{line-in_text}
use Rattle.mk_edit_language.specs.Edits.{LineChange}
use Rattle.mk_edit_language.specs.WordPieces.{is_replaced}
use Rattle.mk_edit_language.specs.LineChanges.{line_pieces, line_change_spans, assigned_after, line_after, reads_as, is_one, fits_line}
use Rattle.mk_edit_language.specs.RisingSpans.{Rise}
use Rattle.mk_edit_language.specs.EachLine.{EachChange, InAssignment, InRecipe, MarkedLine, recipe_text, recipe_text_pieces, recipe_pieces, recipe_after, reads_as_recipe, is_change_misread, marked_pieces, is_each_changed}
use Rattle.mk_edit_language.specs.Changes.{items_said, each_items}
use Rattle.mk_edit_language.specs.LinesInPlace.{IsEachInPlace}
use Rattle.mk_edit_language.proofs.on_lines.SpotLemmas.{recipe-class}
use Rattle.mk_edit_language.proofs.on_edits.MadeLines.{line-respanned}
use Rattle.mk_edit_language.proofs.on_changes.LinesReadAnew.{only-line, ends-too, line-read_anew}
use Rattle.mk_edit_language.proofs.on_edits.KeptByRenameTargetLemmas.{unreplaced-spans}
use Rattle.mk_edit_language.proofs.on_each_line.EachLineSpans.{Sort, Plain, Other, sort-of, marked-rises, pieces-by_itself}

-- a line after the edit, between the others as they were
pub record IsEachMade (c : EachChange) (A : List ClassedLine) (m : MarkedLine) (B : List ClassedLine) : Type 0 where
  pub after : ClassedLine
  pub is : IsEachInPlace c (context_of A) m after
  pub ends : EndsWhereFollowed after.bytes (bytes_of B)
  pub reads : items_of_line after.class after.bytes ≡ each_items c m

-- a line of these bytes and this class, with its mark
abbrev marked_line : (bytes : List ℕ) → Class Cell → (is_meant : Bool) → MarkedLine
marked_line x k b = record { line = record { bytes = x; class = k }; is_meant = b }

-- ---- a line that is not changed

line-same : (c : EachChange) (t : List ℕ) (A : List ClassedLine) (m : MarkedLine) (B : List ClassedLine) → classed_lines t ≡ A ++ m.line ∷ B → is_each_changed c m ≡ false → IsEachMade c A m B
line-same c t A m B h e =
    let l = m.line in
    let L = line-in_text t A l B h in
    record {
      after = l;
      is = record {
        new_line = ap (replaced 0 l.bytes) (sym (unreplaced-spans 0 (marked_pieces c m) e));
        in_place = record {
          one_line = OneLine-logical l.bytes L.one;
          class = L.class;
          context_stays = refl;
          same = λ z. refl;
          plain = λ z. absurd (let q : true ≡ false = sym z ∙ e in cc);
        };
      };
      ends = EndsWhereFollowed-of l.bytes (bytes_of B) L.ends;
      reads = ap (λ b. cond b (items_said c l.class l.bytes) (items_of_line l.class l.bytes)) (sym e);
    }

-- ---- a recipe line

recipe-made : (f u t : List ℕ) (A : List ClassedLine) (x : List ℕ) (B : List ClassedLine) → classed_lines t ≡ A ++ record { bytes = x; class = Class.Recipe } ∷ B
    → is_each_changed (InRecipe f u) (marked_line x Class.Recipe true) ≡ true → is_change_misread (InRecipe f u) (context_of A) (record { bytes = x; class = Class.Recipe }) ≡ false
    → IsEachMade (InRecipe f u) A (marked_line x Class.Recipe true) B
recipe-made f u t A x B h e q =
    let C = context_of A in
    let m = recipe_after f u x in
    let v = new_bytes (recipe_text_pieces f u x) in
    let L = line-in_text t A (record { bytes = x; class = Class.Recipe }) B h in
    let R = and_parts (fits_line x m) (reads_as_recipe v m (class_of C m)) (not-false (fits_line x m && reads_as_recipe v m (class_of C m)) q) in
    let F = and_parts (is_one (logical_lines m)) ((not (ends_line x) || ends_line m) && (not (is_open m) || is_open x)) R.0 in
    let G = and_parts (not (ends_line x) || ends_line m) (not (is_open m) || is_open x) F.1 in
    let K = and_parts (is_recipe (class_of C m)) (bytes_eq (recipe_text m) v) R.1 in
    let text : recipe_text m ≡ v = (bytes_eq-Decides (recipe_text m) v).0 K.1 in
    record {
      after = record { bytes = m; class = Class.Recipe };
      is = record {
        new_line = refl;
        in_place = record {
          one_line = only-line (logical_lines m) m F.0 (concat-logical_lines m);
          class = recipe-class (class_of C m) K.0;
          context_stays = refl;
          same = λ z. absurd (let w : true ≡ false = sym e ∙ z in cc);
          plain = λ z. (refl, refl);
        };
      };
      ends = EndsWhereFollowed-of m (bytes_of B) (ends-too x m (bytes_of B) G.0 L.ends);
      reads = ap (λ z. Recipe z ∷ []) text ∙ ap (λ b. cond b (Recipe v ∷ []) (items_of_line Class.Recipe x)) (sym e);
    }

-- ---- an assignment

-- a class of lines that read as an assignment
record IsReadAs (k : Class Cell) : Type 0 where
  assignment : Assignment Cell
  class_is : k ≡ Assign assignment None

read-as : (i : Assigned) (k : Class Cell) → reads_as i k ≡ true → IsReadAs k
read-as i k h = go (sort-of k)
  where
    go : Sort k → IsReadAs k
    go (Plain a e) = record { assignment = a; class_is = e }
    go (Other p r) = absurd (let w : true ≡ false = sym h ∙ r i in cc)

assignment-made : (d : LineChange) (t : List ℕ) (A : List ClassedLine) (x : List ℕ) (a : Assignment Cell) (B : List ClassedLine) → classed_lines t ≡ A ++ record { bytes = x; class = Assign a None } ∷ B
    → is_each_changed (InAssignment d) (marked_line x (Assign a None) true) ≡ true → is_change_misread (InAssignment d) (context_of A) (record { bytes = x; class = Assign a None }) ≡ false
    → IsEachMade (InAssignment d) A (marked_line x (Assign a None) true) B
assignment-made d t A x a B h e q =
    let C = context_of A in
    let at = length (text_of A) in
    let l : ClassedLine = record { bytes = x; class = Assign a None } in
    let m = line_after d x a in
    let i = assigned_after d a in
    let rs = line_change_spans d at a in
    let R = and_parts (fits_line x m) (reads_as i (class_of C m)) (not-false (fits_line x m && reads_as i (class_of C m)) q) in
    let rise : Rise at (at + length x) rs = marked-rises (InAssignment d) C (marked_line x (Assign a None) true) at (line-in_text t A l B h).class in
    let r = line-read_anew t A l B a rs m i h refl rise (pieces-by_itself at (line_pieces d a) x) R.0 R.1 in
    let y = r.line in
    let bytes : y.bytes ≡ m = line-respanned t rs A l B y h r.lines rise ∙ pieces-by_itself at (line_pieces d a) x in
    let L = line-in_text (replaced 0 t rs) A y B r.lines in
    let K = read-as i (class_of C m) R.1 in
    let class : y.class ≡ Assign K.assignment None = sym L.class ∙ (ap (class_of C) bytes ∙ K.class_is) in
    record {
      after = y;
      is = record {
        new_line = bytes;
        in_place = record {
          one_line = OneLine-logical y.bytes L.one;
          class = L.class;
          context_stays = ap (context_after C) class;
          same = λ z. absurd (let w : true ≡ false = sym e ∙ z in cc);
          plain = λ z. (refl, ap is_conditional class);
        };
      };
      ends = EndsWhereFollowed-of y.bytes (bytes_of B) L.ends;
      reads = r.item ∙ ap (λ b. cond b (AssignItem i ∷ []) (items_of_line (Assign a None) x)) (sym e);
    }

-- ---- each line

-- a line that is meant
meant-made : (c : EachChange) (t : List ℕ) (A : List ClassedLine) (x : List ℕ) (k : Class Cell) (B : List ClassedLine) → classed_lines t ≡ A ++ record { bytes = x; class = k } ∷ B
    → is_each_changed c (marked_line x k true) ≡ true → is_change_misread c (context_of A) (record { bytes = x; class = k }) ≡ false → IsEachMade c A (marked_line x k true) B
meant-made (InAssignment d) t A x k B h e q = go (sort-of k)
  where
    go : Sort k → IsEachMade (InAssignment d) A (marked_line x k true) B
    go (Plain a s) =
        subst (λ (z : Class Cell). classed_lines t ≡ A ++ record { bytes = x; class = z } ∷ B → is_each_changed (InAssignment d) (marked_line x z true) ≡ true
        → is_change_misread (InAssignment d) (context_of A) (record { bytes = x; class = z }) ≡ false → IsEachMade (InAssignment d) A (marked_line x z true) B)
        (sym s) (assignment-made d t A x a B) h e q
    go (Other p r) = absurd (let w : true ≡ false = sym e ∙ ap (list_any is_replaced) (p d) in cc)
meant-made (InRecipe f u) t A x k B h e q = go (is_recipe k) refl
  where
    go : (b : Bool) → is_recipe k ≡ b → IsEachMade (InRecipe f u) A (marked_line x k true) B
    go true s =
        subst (λ (z : Class Cell). classed_lines t ≡ A ++ record { bytes = x; class = z } ∷ B → is_each_changed (InRecipe f u) (marked_line x z true) ≡ true
        → is_change_misread (InRecipe f u) (context_of A) (record { bytes = x; class = z }) ≡ false → IsEachMade (InRecipe f u) A (marked_line x z true) B)
        (sym (recipe-class k s)) (recipe-made f u t A x B) h e q
    go false s = absurd (let w : true ≡ false = sym e ∙ ap (λ b. list_any is_replaced (cond b (recipe_pieces f u x) [])) s in cc)

-- a line that is changed is meant
changed-made : (c : EachChange) (t : List ℕ) (A : List ClassedLine) (m : MarkedLine) (B : List ClassedLine) → classed_lines t ≡ A ++ m.line ∷ B
    → is_each_changed c m ≡ true → is_change_misread c (context_of A) m.line ≡ false → IsEachMade c A m B
changed-made c t A m B h e q = go m.is_meant e
  where
    go : (b : Bool) → is_each_changed c (marked_line m.line.bytes m.line.class b) ≡ true → IsEachMade c A (marked_line m.line.bytes m.line.class b) B
    go true s = meant-made c t A m.line.bytes m.line.class B h s q
    go false s = absurd (cc)

-- each line, if one that is changed is not misread
pub line-made : (c : EachChange) (t : List ℕ) (A : List ClassedLine) (m : MarkedLine) (B : List ClassedLine) → classed_lines t ≡ A ++ m.line ∷ B
    → (is_each_changed c m && is_change_misread c (context_of A) m.line) ≡ false → IsEachMade c A m B
line-made c t A m B h q = go (is_each_changed c m) refl q
  where
    go : (b : Bool) → is_each_changed c m ≡ b → (b && is_change_misread c (context_of A) m.line) ≡ false → IsEachMade c A m B
    go true e r = changed-made c t A m B h e r
    go false e r = line-same c t A m B h e
