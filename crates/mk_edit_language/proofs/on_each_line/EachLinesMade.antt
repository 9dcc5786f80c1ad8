-- The lines of a text after an edit of several lines that is checked by reading, each in the place of the old one.
use Rattle.std.proofs.Common.{◌≡◌, refl, sym, ap, ◌∙◌, subst, ℕ, List, [], ◌∷◌, ◌++◌, map, false, ◌&&◌, append_assoc, length, length-append, ◌+◌}
use Rattle.std.proofs.lemmas.List.{append-nil}
use Rattle.mk_lines.specs.Lists.{concat}
use Rattle.mk_lines.specs.LogicalLines.{EndsWhereFollowed}
use Rattle.mk_lines.specs.Pieces.{replaced, replacements}
use Rattle.mk_lines.proofs.on_lists.BoolLemmas.{or-left_false, or-right_false}
use Rattle.mk_class.specs.Contexts.{Context, start, context_after}
use Rattle.mk_class.specs.ClassedLines.{ClassedLine, classed_lines}
use Rattle.mk_tree.specs.Documents.{text_of, context_of}
use Rattle.mk_tree.specs.Items.{items}
use Rattle.mk_tree.specs.LineTexts.{bytes_of}
use Rattle.mk_tree.specs.EachReplaced.{ReplaceEach}
use Rattle.mk_tree.proofs.on_documents.LinesInText.{run-in_text, text_of-append, context_of-last, AreClassed, AreClassed-class, AreClassed-tail}
use Rattle.mk_tree.proofs.on_documents.DocumentLemmas.{text_of-classed_lines}
use Rattle.mk_tree.proofs.on_changes.EachReplacedLemmas.{lines-replaced}
use Rattle.mk_edit_language.specs.EachLine.{EachChange, MarkedLine, marked_pieces, marked_spans, is_each_changed, is_change_misread, each_bytes}
use Rattle.mk_edit_language.specs.LineCauses.{is_any_misread}
use Rattle.mk_edit_language.specs.Changes.{each_items}
use Rattle.mk_edit_language.specs.LinesInPlace.{AreLinesInPlace, IsEachInPlace}
use Rattle.mk_edit_language.proofs.on_edits.RisingSpanLemmas.{replaced-append}
use Rattle.mk_edit_language.proofs.on_each_line.EachLineSpans.{unmarked, marked-rises, marked_spans-rise, pieces-by_itself}
use Rattle.mk_edit_language.proofs.on_each_line.EachLineMade.{IsEachMade, line-made}

-- ---- several lines

-- lines after the edit, the first of which begins at an offset and stands in a context
pub record AreMade (c : EachChange) (at : ℕ) (context : Context) (ms : List MarkedLine) : Type 0 where
  pub after : List ClassedLine
  pub in_place : AreLinesInPlace (λ (m : MarkedLine). m.line) (IsEachInPlace c) context ms after
  pub each : ReplaceEach context (unmarked ms) after []
  pub bytes : bytes_of after ≡ map (each_bytes c) ms
  pub text : replaced at (text_of (unmarked ms)) (marked_spans c at ms) ≡ text_of after
  pub reads : items after ≡ concat (map (each_items c) ms)

both-made : (c : EachChange) (A : List ClassedLine) (m : MarkedLine) (ms : List MarkedLine) → IsEachMade c A m (unmarked ms) → AreClassed (context_of A) (m.line ∷ unmarked ms)
    → AreMade c (length (text_of A) + length m.line.bytes) (context_after (context_of A) m.line.class) ms → AreMade c (length (text_of A)) (context_of A) (m ∷ ms)
both-made c A m ms M k R =
    let C = context_of A in
    let at = length (text_of A) in
    let l = m.line in
    let ls = unmarked ms in
    let n = at + length l.bytes in
    let rs = replacements at (marked_pieces c m) in
    let whole = replaced-append at (n + length (text_of ls)) l.bytes (text_of ls) rs (marked_spans c n ms) (marked-rises c C m at (AreClassed-class C l ls k)) (marked_spans-rise c (context_after C l.class) ms n (AreClassed-tail C l ls k)) in
    let here : replaced at l.bytes rs ≡ M.after.bytes = pieces-by_itself at (marked_pieces c m) l.bytes ∙ sym M.is.new_line in
    record {
      after = M.after ∷ R.after;
      in_place = (M.is, R.in_place);
      each = (
        record {
          one = M.is.in_place.one_line;
          ends = subst (λ z. EndsWhereFollowed M.after.bytes (bytes_of z)) (sym (append-nil ls)) M.ends;
          class = M.is.in_place.class;
          context = M.is.in_place.context_stays;
        },
        R.each,
      );
      bytes = ap (λ z. z ∷ bytes_of R.after) M.is.new_line ∙ ap (λ z. each_bytes c m ∷ z) R.bytes;
      text = whole ∙ (ap (λ z. z ++ replaced n (text_of ls) (marked_spans c n ms)) here ∙ ap (λ z. M.after.bytes ++ z) R.text);
      reads = ap (λ z. z ++ items R.after) M.reads ∙ ap (λ z. each_items c m ++ z) R.reads;
    }

lines-made : (c : EachChange) (t : List ℕ) (A : List ClassedLine) (ms : List MarkedLine) → classed_lines t ≡ A ++ unmarked ms → is_any_misread c (context_of A) ms ≡ false → AreMade c (length (text_of A)) (context_of A) ms
lines-made c t A [] h q = record { after = []; in_place = tt; each = tt; bytes = refl; text = refl; reads = refl }
lines-made c t A (m ∷ ms) h q =
    let C = context_of A in
    let l = m.line in
    let ls = unmarked ms in
    let B = A ++ l ∷ [] in
    let here = is_each_changed c m && is_change_misread c C l in
    let below = is_any_misread c (context_after C l.class) ms in
    let last = context_of-last A l in
    let R = lines-made c t B ms (h ∙ sym (append_assoc A (l ∷ []) ls)) (ap (λ (z : Context). is_any_misread c z ms) last ∙ or-right_false here below q) in
    let at : length (text_of B) ≡ length (text_of A) + length l.bytes =
    ap length (text_of-append A (l ∷ []) ∙ ap (λ z. text_of A ++ z) (append-nil l.bytes)) ∙ length-append (text_of A) l.bytes in
    let next = subst (λ z. AreMade c z (context_after C l.class) ms) at (subst (λ (z : Context). AreMade c (length (text_of B)) z ms) last R) in
    both-made c A m ms (line-made c t A m ls h (or-left_false here below q)) (run-in_text t A (l ∷ ls) [] (h ∙ ap (λ z. A ++ z) (sym (append-nil (l ∷ ls))))).run_classed next

-- the lines of a text after the edit
pub record IsTextMade (c : EachChange) (t : List ℕ) (ms : List MarkedLine) : Type 0 where
  pub made : AreMade c 0 start ms
  pub lines : classed_lines (replaced 0 t (marked_spans c 0 ms)) ≡ made.after

pub text-made : (c : EachChange) (t : List ℕ) (ms : List MarkedLine) → classed_lines t ≡ unmarked ms → is_any_misread c start ms ≡ false → IsTextMade c t ms
text-made c t ms h q =
    let ls = unmarked ms in
    let rs = marked_spans c 0 ms in
    let M = lines-made c t [] ms h q in
    let whole : t ≡ text_of ls = sym (text_of-classed_lines t) ∙ ap text_of h in
    let text : replaced 0 t rs ≡ text_of M.after ++ [] = ap (λ z. replaced 0 z rs) whole ∙ (M.text ∙ sym (append-nil (text_of M.after))) in
    record { made = M; lines = ap classed_lines text ∙ (lines-replaced t [] ls [] M.after (h ∙ sym (append-nil ls)) M.each ∙ append-nil M.after) }
