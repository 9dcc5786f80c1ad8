-- An accepted edit that makes an assignment's line a comment, or a comment the line of an assignment.
use Rattle.std.proofs.Common.{◌≡◌, refl, sym, ap, ◌∙◌, subst, arith, ℕ, List, [], ◌∷◌, ◌++◌, true, false, not, ◌&&◌, ◌||◌, Option, Some, None, option_map}
use Rattle.std.proofs.lemmas.Bool.{and_parts, not-false}
use Rattle.std.proofs.lemmas.List.{append-nil}
use Rattle.std.specs.Prelude.{Ok}
use Rattle.mk_lines.specs.LogicalLines.{logical_lines, is_open, ends_line}
use Rattle.mk_lines.proofs.on_lists.BoolLemmas.{or-left_false}
use Rattle.mk_lines.proofs.on_lines.LineLemmas.{OneLine, OneLine-of, OneLine-logical, EndsBefore, concat-logical_lines}
use Rattle.mk_lines.specs.Cells.{Cell}
use Rattle.mk_lines.specs.Pieces.{Replacement, replaced}
use Rattle.mk_class.specs.Classes.{Class, is_conditional}
use Rattle.mk_class.specs.Contexts.{context_after}
use Rattle.mk_class.specs.ClassTable.{class_of}
use Rattle.mk_class.specs.ClassedLines.{ClassedLine, classed, classed_lines}
use Rattle.mk_tree.specs.Documents.{text_of, context_of}
use Rattle.mk_tree.specs.Items.{items_of_line}
use Rattle.mk_tree.specs.Leaning.{AgreeButForFlag, leans}
use Rattle.mk_tree.specs.LineTexts.{StandingLine, line_in}
use Rattle.mk_tree.proofs.on_documents.LinesInText.{line-in_text, bytes_of}
use Rattle.mk_tree.proofs.on_changes.LeaningLemmas.{leans-back}
use Rattle.mk_tree.proofs.on_changes.RunsReplaced.{run-replaced_keeping}
use Rattle.mk_tree.proofs.on_changes.SpansInLines.{text-pieces_replaced}
use Rattle.mk_edit_language.specs.Edits.{Switch, CommentOut, Uncomment, SwitchLine}
use Rattle.mk_edit_language.specs.Spots.{spots}
use Rattle.mk_edit_language.specs.Comments.{is_comment, says_name}
use Rattle.mk_edit_language.specs.Addresses.{switch_address, assigns, found}
use Rattle.mk_edit_language.specs.Stretches.{this_line}
use Rattle.mk_edit_language.specs.LineChanges.{is_one, fits_line}
use Rattle.mk_edit_language.specs.SwitchedLines.{switch_pieces, switch_spans, line_switched, is_switch_misread, leans_on_assignment, switched_items}
use Rattle.mk_edit_language.specs.EditSpans.{where_found}
use Rattle.mk_edit_language.specs.LineCauses.{switch_leans, is_found_switch_misread}
use Rattle.mk_edit_language.specs.Refusals.{spans}
use Rattle.mk_edit_language.specs.Changes.{with_items, with_switched}
use Rattle.mk_edit_language.proofs.on_edits.Accepted.{IsAccepted, accepted, where_holds-none, spot-picked}
use Rattle.mk_edit_language.proofs.on_edits.MadeLines.{IsMade, line_in_stead-made}
use Rattle.mk_edit_language.proofs.on_lines.SpotLemmas.{picked-is}
use Rattle.mk_edit_language.proofs.on_lines.PrefixLemmas.{context-can_begin}
use Rattle.mk_edit_language.proofs.on_values.FoundAssignments.{assignment-found, assigned-in_context}
use Rattle.mk_edit_language.proofs.on_values.SetValueLemmas.{not_prefix}
use Rattle.mk_edit_language.proofs.on_changes.LinesReadAnew.{only-line, ends-too}
use Rattle.mk_edit_language.proofs.on_comments.SwitchedPieces.{switch_rest, switch-old, switch-new}
use Rattle.mk_edit_language.proofs.on_comments.CommentLines.{led-one_line, led-ends, led-comment}

-- ---- the line in the place of the old one

-- What is known of the new line: it stands by itself, it has this class where the old line stood, the contexts after the two
-- agree but for the flag, the lines below do not lean on it, and it reads as said.
record IsSwitched (w : Switch) (s : StandingLine) : Type 0 where
  class : Class Cell
  one : OneLine (line_switched w s.line.bytes)
  ends : EndsBefore (line_switched w s.line.bytes) (bytes_of s.below)
  class_is : class_of (context_of s.above) (line_switched w s.line.bytes) ≡ class
  agree : AgreeButForFlag (context_after (context_of s.above) s.line.class) (context_after (context_of s.above) class)
  free : leans (context_after (context_of s.above) s.line.class).prefix (context_after (context_of s.above) s.line.class).flag (context_after (context_of s.above) class).flag s.below ≡ false
  old_plain : not (is_conditional s.line.class) ≡ true
  new_plain : not (is_conditional class) ≡ true
  reads : switched_items w s ≡ items_of_line class (line_switched w s.line.bytes)

-- the lines afterwards
switched-lines : (w : Switch) (t : List ℕ) (s : StandingLine) → classed_lines t ≡ s.above ++ s.line ∷ s.below → (S : IsSwitched w s)
    → classed_lines (replaced 0 t (switch_spans w s)) ≡ s.above ++ record { bytes = line_switched w s.line.bytes; class = S.class } ∷ s.below
switched-lines w t s h S =
    let l = s.line.bytes in
    let m = line_switched w l in
    let c = context_of s.above in
    let text : replaced 0 t (switch_spans w s) ≡ text_of s.above ++ (m ++ text_of s.below) =
    text-pieces_replaced t s.above s.line s.below (switch_pieces w l) (switch_rest w l) h (sym (switch-old w l)) ∙ ap (λ z. text_of s.above ++ (z ++ text_of s.below)) (sym (switch-new w l)) in
    let new : classed c (logical_lines m) ≡ record { bytes = m; class = S.class } ∷ [] =
    ap (classed c) (OneLine-logical m S.one) ∙ ap (λ (z : Class Cell). record { bytes = m; class = z } ∷ []) S.class_is in
    ap classed_lines text ∙ run-replaced_keeping t s.above (s.line ∷ []) s.below m (record { bytes = m; class = S.class } ∷ []) h new (λ z. cc) S.ends S.agree S.free

switched-made : (w : Switch) (nth : Option ℕ) (n t : List ℕ) (rs : List Replacement) (s : StandingLine) → spans t (SwitchLine w nth n) ≡ Ok rs → found (classed_lines t) (switch_address w nth n) ≡ Some s
    → classed_lines t ≡ s.above ++ s.line ∷ s.below → IsSwitched w s → IsMade t (SwitchLine w nth n) rs
switched-made w nth n t rs s h f whole S =
    let e = SwitchLine w nth n in
    let m : ClassedLine = record { bytes = line_switched w s.line.bytes; class = S.class } in
    let spans_are : switch_spans w s ≡ rs = ap (where_found (switch_spans w)) (sym f) ∙ (accepted t e rs h).spans_are in
    line_in_stead-made t e rs s m h (ap (option_map this_line) f) (ap (λ z. classed_lines (replaced 0 t z)) (sym spans_are) ∙ switched-lines w t s whole S) S.new_plain
    (ap (where_found (with_switched w)) f ∙ ap (λ z. with_items z (this_line s)) (S.reads ∙ sym (append-nil (items_of_line m.class m.bytes))))
    refl refl (omega arith) (omega arith) S.old_plain

-- the lines below do not lean on the flag, if the new line reads as it is said to
not-leaning : (w : Switch) (nth : Option ℕ) (n t : List ℕ) (rs : List Replacement) (s : StandingLine) → IsAccepted t (SwitchLine w nth n) rs → found (classed_lines t) (switch_address w nth n) ≡ Some s
    → is_switch_misread w n s ≡ false → leans_on_assignment s ≡ false
not-leaning w nth n t rs s A f r =
    let leaning : switch_leans w n (found (classed_lines t) (switch_address w nth n)) ≡ false = or-left_false _ _ (where_holds-none _ _ A.not_leaning) in
    let here : (not (is_switch_misread w n s) && leans_on_assignment s) ≡ false = subst (λ (o : Option StandingLine). switch_leans w n o ≡ false) f leaning in
    ap (λ z. not z && leans_on_assignment s) (sym r) ∙ here

-- ---- a line that becomes a comment

comment_out-made : (nth : Option ℕ) (n t : List ℕ) (rs : List Replacement) → spans t (SwitchLine CommentOut nth n) ≡ Ok rs → IsMade t (SwitchLine CommentOut nth n) rs
comment_out-made nth n t rs h =
    let A = accepted t (SwitchLine CommentOut nth n) rs h in
    let F = assignment-found t n nth (where_holds-none _ _ A.is_there) (where_holds-none _ _ A.is_one) (not_prefix n A.not_reserved) in
    let s = F.spot in
    let l = s.line.bytes in
    let c = context_of s.above in
    let k = Class.Assign F.assigned None in
    let L = line-in_text t s.above s.line s.below F.whole in
    let m : line_switched CommentOut l ≡ 35 ∷ l = switch-new CommentOut l in
    let leans_not = leans-back c.prefix c.flag (context_after c k).flag s.below (not-leaning CommentOut nth n t rs s A F.found_is refl) in
    switched-made CommentOut nth n t rs s h F.found_is F.whole (record {
      class = Class.Comment;
      one = subst OneLine (sym m) (led-one_line l L.one);
      ends = subst (λ z. EndsBefore z (bytes_of s.below)) (sym m) (led-ends l (bytes_of s.below) L.one L.ends);
      class_is = ap (class_of c) m ∙ led-comment c l F.assigned None (L.class ∙ F.class_is) (context-can_begin s.above L.above_classed).no_hash;
      agree = subst (λ (z : Class Cell). AgreeButForFlag (context_after c z) (context_after c Class.Comment)) (sym F.class_is) (record { defines = refl; conditionals = refl; prefix = refl });
      free = subst (λ (z : Class Cell). leans (context_after c z).prefix (context_after c z).flag c.flag s.below ≡ false) (sym F.class_is) leans_not;
      old_plain = ap (λ z. not (is_conditional z)) F.class_is;
      new_plain = refl;
      reads = refl;
    })

-- ---- a comment that becomes the line of an assignment

comment-is : (k : Class Cell) → is_comment k ≡ true → k ≡ Class.Comment
comment-is Class.Comment e = refl
comment-is (Class.Header h) e = cc
comment-is Class.Endef e = cc
comment-is (Class.Body d) e = cc
comment-is Class.Recipe e = cc
comment-is Class.Opaque e = cc
comment-is Class.Blank e = cc
comment-is (Class.Assign a p) e = cc
comment-is (Class.DefineHead p) e = cc
comment-is Class.If e = cc
comment-is Class.Else e = cc
comment-is Class.Endif e = cc
comment-is Class.Directive e = cc
comment-is (Class.TargetAssign a) e = cc
comment-is Class.Rough e = cc

uncomment-made : (nth : Option ℕ) (n t : List ℕ) (rs : List Replacement) → spans t (SwitchLine Uncomment nth n) ≡ Ok rs → IsMade t (SwitchLine Uncomment nth n) rs
uncomment-made nth n t rs h =
    let e = SwitchLine Uncomment nth n in
    let A = accepted t e rs h in
    let p = spot-picked nth (spots (says_name n) (classed_lines t)) (where_holds-none _ _ A.is_there) (where_holds-none _ _ A.is_one) in
    let s = p.0 in
    let l = s.line.bytes in
    let c = context_of s.above in
    let m = line_switched Uncomment l in
    let q = picked-is (says_name n) (classed_lines t) nth s p.1 in
    let comment = comment-is s.line.class (and_parts (is_comment s.line.class) _ q.passes).0 in
    let L = line-in_text t s.above s.line s.below q.whole in
    let read : is_switch_misread Uncomment n s ≡ false = subst (λ (o : Option StandingLine). is_found_switch_misread Uncomment n o ≡ false) p.1 (where_holds-none _ _ A.not_misread) in
    let R = and_parts (fits_line l m) (assigns n (class_of c m)) (not-false (fits_line l m && assigns n (class_of c m)) read) in
    let F = and_parts (is_one (logical_lines m)) _ R.0 in
    let G = and_parts (not (ends_line l) || ends_line m) (not (is_open m) || is_open l) F.1 in
    let M = assigned-in_context c n (line_in c m) refl R.1 (not_prefix n A.not_reserved) in
    switched-made Uncomment nth n t rs s h p.1 q.whole (record {
      class = Class.Assign M.assigned None;
      one = OneLine-of m (only-line (logical_lines m) m F.0 (concat-logical_lines m));
      ends = ends-too l m (bytes_of s.below) G.0 L.ends;
      class_is = M.class_is;
      agree = subst (λ (z : Class Cell). AgreeButForFlag (context_after c z) (context_after c (Class.Assign M.assigned None))) (sym comment) (record { defines = refl; conditionals = refl; prefix = refl });
      free = subst (λ (z : Class Cell). leans (context_after c z).prefix (context_after c z).flag (context_after c (Class.Assign M.assigned None)).flag s.below ≡ false) (sym comment) (not-leaning Uncomment nth n t rs s A p.1 read);
      old_plain = ap (λ z. not (is_conditional z)) comment;
      new_plain = refl;
      reads = ap (λ z. items_of_line z m) M.class_is;
    })

pub switch-made : (w : Switch) (nth : Option ℕ) (n t : List ℕ) (rs : List Replacement) → spans t (SwitchLine w nth n) ≡ Ok rs → IsMade t (SwitchLine w nth n) rs
switch-made CommentOut nth n t rs h = comment_out-made nth n t rs h
switch-made Uncomment nth n t rs h = uncomment-made nth n t rs h
