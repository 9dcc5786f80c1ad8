-- What an edit that puts a line behind a `#`, or takes a `#` from one, does to the lines of a makefile, in bytes.
use Rattle.std.proofs.Common.{◌≡◌, refl, sym, ap, ◌∙◌, ℕ, List, [], ◌∷◌, false, Option, Some, option_map}
use Rattle.std.specs.Prelude.{Ok, ◌&&◌}
use Rattle.std.proofs.lemmas.Bool.{and_parts, not-false}
use Rattle.std.proofs.lemmas.List.{append-nil}
use Rattle.mk_lines.specs.LogicalLines.{logical_lines}
use Rattle.mk_lines.specs.Pieces.{Replacement}
use Rattle.mk_class.specs.ClassTable.{class_of}
use Rattle.mk_class.specs.ClassedLines.{classed_lines}
use Rattle.mk_tree.specs.LineTexts.{StandingLine, context_of}
use Rattle.mk_tree.proofs.on_documents.LinesInText.{line-in_text}
use Rattle.mk_edit_language.specs.Addresses.{assigns, found, switch_address}
use Rattle.mk_edit_language.specs.Comments.{says_name}
use Rattle.mk_edit_language.specs.Edits.{Switch, CommentOut, Uncomment, SwitchLine}
use Rattle.mk_edit_language.specs.EditSpans.{where_found}
use Rattle.mk_edit_language.specs.KeptLines.{respanned_bytes}
use Rattle.mk_edit_language.specs.LineCauses.{is_found_switch_misread}
use Rattle.mk_edit_language.specs.LineChanges.{fits_line}
use Rattle.mk_edit_language.specs.Refusals.{spans, text_after}
use Rattle.mk_edit_language.specs.Stretches.{this_line}
use Rattle.mk_edit_language.specs.SwitchedLines.{is_switch_misread, line_switched, switch_pieces, switch_spans}
use Rattle.mk_edit_language.specs.declared.refusal.Refusal.TheVariants.{Misread}
use Rattle.mk_edit_language.proofs.on_comments.SwitchedPieces.{switch_rest, switch-new, switch-old}
use Rattle.mk_edit_language.proofs.on_edits.Accepted.{accepted, where_holds-none}
use Rattle.mk_edit_language.proofs.on_edits.EditedLineLemmas.{respanned-pieces}
use Rattle.mk_edit_language.proofs.on_edits.MadeEdits.{one_place-made}
use Rattle.mk_edit_language.proofs.on_lines.SpotLemmas.{picked-is}
use Rattle.mk_session.specs.Statement.{Line, Comment, Become}
use Rattle.mk_session.proofs.on_statement.CellTexts.{has-nothing}
use Rattle.mk_session.proofs.on_statement.LineWords.{assign-names}
use Rattle.mk_session.proofs.on_statement.NamedComments.{comment-says, names-has}
use Rattle.mk_session.proofs.on_statement.PlacedLines.{lines-become}
use Rattle.mk_session.proofs.on_statement.ValuesStated.{some-mapped}

-- the line that is switched, and its bytes afterwards
record IsSwitched (w : Switch) (nth : Option ℕ) (n t : List ℕ) (rs : List Replacement) : Type 0 where
  spot : StandingLine
  found_is : found (classed_lines t) (switch_address w nth n) ≡ Some spot
  new : respanned_bytes (this_line spot) rs ≡ line_switched w spot.line.bytes

switched : (w : Switch) (nth : Option ℕ) (n t : List ℕ) (rs : List Replacement) → spans t (SwitchLine w nth n) ≡ Ok rs → IsSwitched w nth n t rs
switched w nth n t rs h =
    let K = (one_place-made (SwitchLine w nth n) tt t rs h).kept in
    let M = some-mapped this_line (found (classed_lines t) (switch_address w nth n)) K.touched K.place in
    let s = M.0 in
    let l = s.line.bytes in
    let spans_are : rs ≡ switch_spans w s = sym (accepted t (SwitchLine w nth n) rs h).spans_are ∙ ap (where_found (switch_spans w)) M.1 in
    record {
      spot = s;
      found_is = M.1;
      new = ap (respanned_bytes (this_line s)) spans_are ∙ (respanned-pieces (this_line s) (switch_pieces w l) (switch_rest w l) (append-nil l ∙ sym (switch-old w l)) ∙ sym (switch-new w l));
    }

pub comment_out-stated : (nth : Option ℕ) (n t : List ℕ) (rs : List Replacement) → spans t (SwitchLine CommentOut nth n) ≡ Ok rs
    → Become (Line n 61 []) (Comment n) (logical_lines t) (logical_lines (text_after t (SwitchLine CommentOut nth n)))
comment_out-stated nth n t rs h =
    let W = switched CommentOut nth n t rs h in
    let s = W.spot in
    let S = picked-is (λ l. assigns n l.class) (classed_lines t) nth s W.found_is in
    let L = line-in_text t s.above s.line s.below S.whole in
    let m : line_switched CommentOut s.line.bytes ≡ 35 ∷ s.line.bytes = switch-new CommentOut s.line.bytes in
    let names = assign-names (context_of s.above) n s.line.bytes s.line.class L.class S.passes in
    lines-become (Line n 61 []) (Comment n) t (SwitchLine CommentOut nth n) rs (this_line s) (ap (option_map this_line) W.found_is) h
    (s.line.bytes, refl, names, has-nothing s.line.bytes)
    ([], s.line.bytes, ap (λ z. z ∷ []) (W.new ∙ m), names-has n 61 s.line.bytes names)

pub uncomment-stated : (nth : Option ℕ) (n t : List ℕ) (rs : List Replacement) → spans t (SwitchLine Uncomment nth n) ≡ Ok rs
    → Become (Comment n) (Line n 61 []) (logical_lines t) (logical_lines (text_after t (SwitchLine Uncomment nth n)))
uncomment-stated nth n t rs h =
    let W = switched Uncomment nth n t rs h in
    let s = W.spot in
    let l = s.line.bytes in
    let m = line_switched Uncomment l in
    let S = picked-is (says_name n) (classed_lines t) nth s W.found_is in
    let read : is_switch_misread Uncomment n s ≡ false = ap (is_found_switch_misread Uncomment n) (sym W.found_is) ∙ where_holds-none _ Misread (accepted t (SwitchLine Uncomment nth n) rs h).not_misread in
    let R = and_parts (fits_line l m) (assigns n (class_of (context_of s.above) m)) (not-false (fits_line l m && assigns n (class_of (context_of s.above) m)) read) in
    let says = comment-says n s.line S.passes in
    lines-become (Comment n) (Line n 61 []) t (SwitchLine Uncomment nth n) rs (this_line s) (ap (option_map this_line) W.found_is) h
    (says.0, says.1, ap (λ z. z ∷ []) says.2, λ solid. says.3)
    (m, ap (λ z. z ∷ []) W.new, assign-names (context_of s.above) n m (class_of (context_of s.above) m) refl R.1, has-nothing m)
