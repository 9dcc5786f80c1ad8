-- The lines of a text after a change of every value of a name, each in the place of the old one.
use Rattle.std.proofs.Common.{◌≡◌, refl, sym, ap, ◌∙◌, subst, ℕ, List, [], ◌∷◌, ◌++◌, map, Bool, true, false, ◌&&◌, ◌||◌, cond, append_assoc, length, length-append, ◌+◌, Some, None}
use Rattle.std.proofs.lemmas.Bool.{and_parts}
use Rattle.std.proofs.lemmas.List.{append-nil}
use Rattle.std.proofs.lemmas.List.Folds.{list_any-append}
use Rattle.std.specs.List.{list_any}
use Rattle.mk_lines.specs.LogicalLines.{EndsWhereFollowed}
use Rattle.mk_lines.specs.Pieces.{Replacement, replaced}
use Rattle.mk_lines.proofs.on_lists.BoolLemmas.{or-left_false, or-right_false}
use Rattle.mk_lines.proofs.on_lines.LineLemmas.{OneLine-logical}
use Rattle.mk_lines.proofs.on_lines.LineEndLemmas.{EndsWhereFollowed-of}
use Rattle.mk_lines.specs.Cells.{Cell}
use Rattle.mk_class.specs.RecipePrefix.{is_prefix_name}
use Rattle.mk_class.specs.Classes.{Class, is_conditional}
use Rattle.mk_class.specs.Classes.Class.{Assign}
use Rattle.mk_class.specs.Contexts.{Context, start, context_after}
use Rattle.mk_class.specs.ClassedLines.{ClassedLine, classed_lines}
use Rattle.mk_tree.specs.Documents.{text_of, context_of}
use Rattle.mk_tree.specs.Items.{items, items_of_line}
use Rattle.mk_tree.specs.LineTexts.{StandingLine, bytes_of}
use Rattle.mk_tree.specs.EachReplaced.{ReplaceEach}
use Rattle.mk_tree.proofs.on_documents.LinesInText.{line-in_text, run-in_text, text_of-append, context_of-last, AreClassed, AreClassed-tail}
use Rattle.mk_tree.proofs.on_documents.DocumentLemmas.{text_of-classed_lines}
use Rattle.mk_tree.proofs.on_changes.EachReplacedLemmas.{lines-replaced}
use Rattle.mk_edit_language.specs.Edits.{ValueChange}
use Rattle.mk_edit_language.specs.Addresses.{assigns}
use Rattle.mk_edit_language.specs.ValueChanges.{assignment_spans, has_effect, is_changed, change_spans, changed_line_spans}
use Rattle.mk_edit_language.specs.EditSpans.{spans_in_lines}
use Rattle.mk_edit_language.specs.LineCauses.{is_open_to}
use Rattle.mk_edit_language.specs.Changes.{value_item, value_changed, changed_items, with_values}
use Rattle.mk_edit_language.specs.RisingSpans.{Rise}
use Rattle.mk_edit_language.specs.LinesInPlace.{AreInPlace, changed_bytes, IsLineChanged}
use Rattle.mk_edit_language.proofs.on_edits.RisingSpanLemmas.{replaced-append}
use Rattle.mk_edit_language.proofs.on_edits.LineSpansRise.{spot-rises, rise-changed, rise-in_line, rise-lines}
use Rattle.mk_edit_language.proofs.on_edits.MadeLines.{line-respanned}
use Rattle.mk_edit_language.proofs.on_values.FoundAssignments.{assigned-by_name, assigned-by_item}
use Rattle.mk_edit_language.proofs.on_changes.SpansShifted.{change-by_itself}
use Rattle.mk_edit_language.proofs.on_changes.AssignmentsChanged.{IsChangeText, assignment-changed}

-- What is known of a change that may be made in some lines: the name is not that of the prefix, the text passes its test, and no
-- value that is changed is open to the change.
pub record CanChange (n : List ℕ) (c : ValueChange) (ls : List ClassedLine) : Type 0 where
  pub not_prefix : is_prefix_name n ≡ false
  pub text : IsChangeText c
  pub none_open : list_any (λ l. is_changed n c l && is_open_to c (Some l.class)) ls ≡ false

-- ---- one line

-- a line after the change, between the others as they were
record IsMade (n : List ℕ) (c : ValueChange) (t : List ℕ) (A : List ClassedLine) (l : ClassedLine) (B : List ClassedLine) : Type 0 where
  after : ClassedLine
  is : IsLineChanged n c (context_of A) l after
  ends : EndsWhereFollowed after.bytes (bytes_of B)
  text : replaced (length (text_of A)) l.bytes (changed_line_spans n c (length (text_of A)) l.class) ≡ after.bytes
  reads : items_of_line after.class after.bytes ≡ changed_items t n c (length (text_of A)) l

-- a line that is not changed
line-same : (n : List ℕ) (c : ValueChange) (t : List ℕ) (A : List ClassedLine) (l : ClassedLine) (B : List ClassedLine) → classed_lines t ≡ A ++ l ∷ B → is_changed n c l ≡ false → IsMade n c t A l B
line-same n c t A l B h e =
    let at = length (text_of A) in
    let L = line-in_text t A l B h in
    let none : (m : ℕ) → changed_line_spans n c m l.class ≡ [] = λ m. ap (λ b. cond b (assignment_spans (change_spans c) m l.class) []) e in
    record {
      after = l;
      is = record {
        new_line = ap (replaced 0 l.bytes) (sym (none 0));
        in_place = record {
          one_line = OneLine-logical l.bytes L.one;
          class = L.class;
          context_stays = refl;
          same = λ z. refl;
          plain = λ z. absurd (let q : true ≡ false = sym z ∙ e in cc);
        };
      };
      ends = EndsWhereFollowed-of l.bytes (bytes_of B) L.ends;
      text = ap (replaced at l.bytes) (none at);
      reads = ap (λ b. cond b (value_item (value_changed t c) at l.class) (items_of_line l.class l.bytes)) (sym e);
    }

-- what does not hold for any line does not hold for one
none-of : (p : ClassedLine → Bool) (A : List ClassedLine) (l : ClassedLine) (B : List ClassedLine) → list_any p (A ++ l ∷ B) ≡ false → p l ≡ false
none-of p A l B h = or-left_false (p l) (list_any p B) (or-right_false (list_any p A) (p l || list_any p B) (sym (list_any-append p A (l ∷ B)) ∙ h))

one-open : (x y : Bool) → (x && y) ≡ false → x ≡ true → y ≡ false
one-open true y h k = h
one-open false y h k = cc

-- a line that is changed
line-changed : (n : List ℕ) (c : ValueChange) (t : List ℕ) → CanChange n c (classed_lines t) → (A : List ClassedLine) (l : ClassedLine) (B : List ClassedLine) → classed_lines t ≡ A ++ l ∷ B
    → is_changed n c l ≡ true → IsMade n c t A l B
line-changed n c t K A l B h e =
    let C = context_of A in
    let at = length (text_of A) in
    let f = change_spans c in
    let s : StandingLine = record { above = A; line = l; below = B } in
    let x = assigned-by_name t n A l B h (and_parts (assigns n l.class) (has_effect c (Some l.class)) e).0 K.not_prefix in
    let a = x.assigned in
    let v = value_changed t c at a in
    let none = none-of (λ l. is_changed n c l && is_open_to c (Some l.class)) A l B (subst (λ z. list_any (λ l. is_changed n c l && is_open_to c (Some l.class)) z ≡ false) h K.none_open) in
    let closed : is_open_to c (Some (Assign a None)) ≡ false = subst (λ (z : Class Cell). is_open_to c (Some z) ≡ false) x.class_is (one-open (is_changed n c l) (is_open_to c (Some l.class)) none e) in
    let r = assignment-changed c t A l B a h x.class_is x.no_prefix K.text closed in
    let rs : List Replacement = f at a in
    let spans_are : (m : ℕ) → changed_line_spans n c m l.class ≡ f m a = λ m. ap (λ b. cond b (assignment_spans f m l.class) []) e ∙ ap (assignment_spans f m) x.class_is in
    let rise : Rise at (at + length l.bytes) rs = subst (Rise at (at + length l.bytes)) (spans_are at) (spot-rises t s (changed_line_spans n c) h (rise-changed n c)) in
    let m = r.line in
    let bytes : m.bytes ≡ replaced at l.bytes rs = line-respanned t rs A l B m h r.lines rise in
    let L = line-in_text (replaced 0 t rs) A m B r.lines in
    let y = assigned-by_item (replaced 0 t rs) A m B a v r.lines r.item x.no_prefix in
    record {
      after = m;
      is = record {
        new_line = bytes ∙ (change-by_itself c at a l.bytes ∙ ap (replaced 0 l.bytes) (sym (spans_are 0)));
        in_place = record {
          one_line = OneLine-logical m.bytes L.one;
          class = L.class;
          context_stays = ap (context_after C) y.class_is ∙ ap (context_after C) (sym x.class_is);
          same = λ z. absurd (let q : true ≡ false = sym e ∙ z in cc);
          plain = λ z. (ap is_conditional x.class_is, ap is_conditional y.class_is);
        };
      };
      ends = EndsWhereFollowed-of m.bytes (bytes_of B) L.ends;
      text = ap (replaced at l.bytes) (spans_are at) ∙ sym bytes;
      reads = r.item
          ∙ (ap (value_item (value_changed t c) at) (sym x.class_is) ∙ ap (λ b. cond b (value_item (value_changed t c) at l.class) (items_of_line l.class l.bytes)) (sym e));
    }

line-made : (n : List ℕ) (c : ValueChange) (t : List ℕ) → CanChange n c (classed_lines t) → (A : List ClassedLine) (l : ClassedLine) (B : List ClassedLine) → classed_lines t ≡ A ++ l ∷ B → IsMade n c t A l B
line-made n c t K A l B h = go (is_changed n c l) refl
  where
    go : (b : Bool) → is_changed n c l ≡ b → IsMade n c t A l B
    go true e = line-changed n c t K A l B h e
    go false e = line-same n c t A l B h e

-- ---- several lines

-- lines after the change, the first of which begins at an offset and stands in a context
pub record AreMade (n : List ℕ) (c : ValueChange) (t : List ℕ) (at : ℕ) (context : Context) (ls : List ClassedLine) : Type 0 where
  pub after : List ClassedLine
  pub in_place : AreInPlace (IsLineChanged n c) context ls after
  pub each : ReplaceEach context ls after []
  pub bytes : bytes_of after ≡ map (changed_bytes n c) ls
  pub text : replaced at (text_of ls) (spans_in_lines (changed_line_spans n c) at ls) ≡ text_of after
  pub reads : items after ≡ with_values t n c at ls

both-made : (n : List ℕ) (c : ValueChange) (t : List ℕ) (A : List ClassedLine) (l : ClassedLine) (ls : List ClassedLine) → IsMade n c t A l ls → AreClassed (context_of A) (l ∷ ls)
    → AreMade n c t (length (text_of A) + length l.bytes) (context_after (context_of A) l.class) ls → AreMade n c t (length (text_of A)) (context_of A) (l ∷ ls)
both-made n c t A l ls M k R =
    let C = context_of A in
    let at = length (text_of A) in
    let m = at + length l.bytes in
    let f = changed_line_spans n c in
    let g = rise-changed n c in
    let whole = replaced-append at (m + length (text_of ls)) l.bytes (text_of ls) (f at l.class) (spans_in_lines f m ls) (rise-in_line f g C l ls at k) (rise-lines f g (context_after C l.class) ls m (AreClassed-tail C l ls k)) in
    record {
      after = M.after ∷ R.after;
      in_place = (M.is, R.in_place);
      each = (
        record {
          one = M.is.in_place.one_line;
          ends = subst (λ z. EndsWhereFollowed M.after.bytes (bytes_of z)) (sym (append-nil ls)) M.ends;
          class = M.is.in_place.class;
          context = M.is.in_place.context_stays;
        },
        R.each,
      );
      bytes = ap (λ z. z ∷ bytes_of R.after) M.is.new_line ∙ ap (λ z. changed_bytes n c l ∷ z) R.bytes;
      text = whole ∙ (ap (λ z. z ++ replaced m (text_of ls) (spans_in_lines f m ls)) M.text ∙ ap (λ z. M.after.bytes ++ z) R.text);
      reads = ap (λ z. z ++ items R.after) M.reads ∙ ap (λ z. changed_items t n c at l ++ z) R.reads;
    }

lines-made : (n : List ℕ) (c : ValueChange) (t : List ℕ) → CanChange n c (classed_lines t) → (A ls : List ClassedLine) → classed_lines t ≡ A ++ ls → AreMade n c t (length (text_of A)) (context_of A) ls
lines-made n c t K A [] h = record { after = []; in_place = tt; each = tt; bytes = refl; text = refl; reads = refl }
lines-made n c t K A (l ∷ ls) h =
    let B = A ++ l ∷ [] in
    let R = lines-made n c t K B ls (h ∙ sym (append_assoc A (l ∷ []) ls)) in
    let at : length (text_of B) ≡ length (text_of A) + length l.bytes =
    ap length (text_of-append A (l ∷ []) ∙ ap (λ z. text_of A ++ z) (append-nil l.bytes)) ∙ length-append (text_of A) l.bytes in
    let next = subst (λ z. AreMade n c t z (context_after (context_of A) l.class) ls) at (subst (λ (z : Context). AreMade n c t (length (text_of B)) z ls) (context_of-last A l) R) in
    both-made n c t A l ls (line-made n c t K A l ls h) (run-in_text t A (l ∷ ls) [] (h ∙ ap (λ z. A ++ z) (sym (append-nil (l ∷ ls))))).run_classed next

-- the lines of a text after the change
pub record IsTextChanged (n : List ℕ) (c : ValueChange) (t : List ℕ) : Type 0 where
  pub made : AreMade n c t 0 start (classed_lines t)
  pub lines : classed_lines (replaced 0 t (spans_in_lines (changed_line_spans n c) 0 (classed_lines t))) ≡ made.after

pub text-changed : (n : List ℕ) (c : ValueChange) (t : List ℕ) → CanChange n c (classed_lines t) → IsTextChanged n c t
text-changed n c t K =
    let ls = classed_lines t in
    let M = lines-made n c t K [] ls refl in
    let rs = spans_in_lines (changed_line_spans n c) 0 ls in
    let text : replaced 0 t rs ≡ text_of M.after ++ [] = ap (λ z. replaced 0 z rs) (sym (text_of-classed_lines t)) ∙ (M.text ∙ sym (append-nil (text_of M.after))) in
    record { made = M; lines = ap classed_lines text ∙ (lines-replaced t [] ls [] M.after (sym (append-nil ls)) M.each ∙ append-nil M.after) }
