-- Plans of edits that put a text in the place of one range of a line's bytes.
use Rattle.std.proofs.Common.{◌≡◌, refl, sym, ap, ◌∙◌, subst, arith, ℕ, zero, suc, ◌+◌, ◌-◌, ◌<◌, ◌≤◌, List, [], ◌∷◌, ◌++◌, true, false, length, take, drop, Some}
use Rattle.std.specs.Prelude.{Ok, Err, nat_lt, slice_get}
use Rattle.std.proofs.lemmas.List.{append-nil}
use Rattle.std.proofs.lemmas.Bool.{lt-ltb, le-ltb}
use Rattle.mk_lines.specs.Limits.{max_text}
use Rattle.mk_lines.specs.Pieces.{Replacement}
use Rattle.mk_lines.specs.declared.split.Span.{Span}
use Rattle.mk_class.specs.ClassedLines.{classed_lines}
use Rattle.mk_tree.specs.Documents.{IsFaithful, text_of}
use Rattle.mk_tree.specs.LocatedLines.{LocatedLine, located_text, size_of}
use Rattle.mk_tree.specs.LineTexts.{StandingLine}
use Rattle.mk_tree.proofs.on_changes.Sizes.{size_of-text}
use Rattle.mk_edit_language.specs.Edits.{Edit}
use Rattle.mk_edit_language.specs.Stretches.{this_line, touched_by}
use Rattle.mk_edit_language.specs.Causes.{where_holds}
use Rattle.mk_edit_language.specs.KeptLines.{edited_bytes, respanned_bytes}
use Rattle.mk_edit_language.specs.LineCauses.{too_long}
use Rattle.mk_edit_language.specs.Lengths.{bytes_taken, bytes_put}
use Rattle.mk_edit_language.specs.EditSpans.{spans_of}
use Rattle.mk_edit_language.specs.Refusals.{causes, first_cause, spans}
use Rattle.mk_edit_language.specs.declared.refusal.Refusal.TheVariants.{TooLong}
use Rattle.mk_edit_language.proofs.on_edits.EditedLineLemmas.{respanned-one}
use Rattle.mk_edit_parts.proofs.CauseLemmas.{refused, unrefused}
use Rattle.mk_edit.proofs.on_plans.CausePlans.{long-said}
use Rattle.mk_edit.proofs.on_plans.LinePlans.{IsReplaced, line-replaced}

-- An edit that puts a text in the place of a range of the bytes of the line at a place. No cause
-- holds, except perhaps that the result is too long.
pub record IsRangeEdit (e : Edit) (ls : List LocatedLine) (at : ℕ) (l : LocatedLine) (r : Span) (new : List ℕ) : Type 0 where
  pub spot : StandingLine
  pub place_is : length spot.above ≡ at
  pub touched_is : touched_by (classed_lines (located_text ls)) e ≡ Some (this_line spot)
  pub left_is : (rs : List Replacement) → edited_bytes (located_text ls) e (this_line spot) rs ≡ respanned_bytes (this_line spot) rs ∷ []
  pub bytes_are : spot.line.bytes ≡ l.bytes
  pub rises : r.start ≤ r.end
  pub within : r.end ≤ length l.bytes
  pub spans_are : spans_of (located_text ls) (classed_lines (located_text ls)) e ≡ record { start = length (text_of spot.above) + r.start; end = length (text_of spot.above) + r.end; new = new } ∷ []
  pub causes_are : first_cause (causes (located_text ls) (classed_lines (located_text ls)) e) ≡ first_cause (too_long (located_text ls) (spans_of (located_text ls) (classed_lines (located_text ls)) e) ∷ [])

-- a line is no longer than its document
pub line-short : (ls : List LocatedLine) (at : ℕ) (l : LocatedLine) → Some l ≡ slice_get ls at → length l.bytes ≤ size_of ls
line-short [] at l h = absurd (cc)
line-short (x ∷ ls) zero l h = let e : x ≡ l = cc in subst (λ (z : LocatedLine). length z.bytes ≤ length x.bytes + size_of ls) e (omega arith)
line-short (x ∷ ls) (suc at) l h = omega (arith, line-short ls at l h)

-- how long the result is decides
range-length : (e : Edit) (ls : List LocatedLine) (at : ℕ) (l : LocatedLine) (r : Span) (new : List ℕ) → (E : IsRangeEdit e ls at l r new)
    → too_long (located_text ls) (spans_of (located_text ls) (classed_lines (located_text ls)) e) ≡ where_holds (nat_lt (max_text + (r.end - r.start)) (length (located_text ls) + length new)) TooLong
range-length e ls at l r new E =
    long-said (located_text ls) e (r.end - r.start) (length new) (ap bytes_taken E.spans_are ∙ omega arith) (ap bytes_put E.spans_are ∙ omega arith)

pub range-long : (e : Edit) (ls : List LocatedLine) (at : ℕ) (l : LocatedLine) (r : Span) (new : List ℕ) → IsRangeEdit e ls at l r new → max_text + (r.end - r.start) < size_of ls + length new
    → spans (located_text ls) e ≡ Err TooLong
range-long e ls at l r new E h =
    let long : nat_lt (max_text + (r.end - r.start)) (length (located_text ls) + length new) ≡ true = lt-ltb _ _ (omega (arith, h, size_of-text ls)) in
    refused (located_text ls) e TooLong (E.causes_are ∙ ap (λ o. first_cause (o ∷ [])) (range-length e ls at l r new E ∙ ap (λ b. where_holds b TooLong) long))

pub range-accepted : (e : Edit) (ls : List LocatedLine) (at : ℕ) (l : LocatedLine) (r : Span) (new : List ℕ) → IsRangeEdit e ls at l r new → size_of ls + length new ≤ max_text + (r.end - r.start)
    → spans (located_text ls) e ≡ Ok (spans_of (located_text ls) (classed_lines (located_text ls)) e)
range-accepted e ls at l r new E h =
    let short : nat_lt (max_text + (r.end - r.start)) (length (located_text ls) + length new) ≡ false = le-ltb _ _ (omega (arith, h, size_of-text ls)) in
    unrefused (located_text ls) e (E.causes_are ∙ ap (λ o. first_cause (o ∷ [])) (range-length e ls at l r new E ∙ ap (λ b. where_holds b TooLong) short))

-- the line with the range replaced is what the edit leaves
pub range-replaced : (e : Edit) (ls : List LocatedLine) (at : ℕ) (l : LocatedLine) (r : Span) (new bytes m : List ℕ) → IsFaithful ls → IsRangeEdit e ls at l r new → size_of ls + length new ≤ max_text + (r.end - r.start)
    → bytes ≡ l.bytes → m ≡ take r.start bytes ++ (new ++ drop r.end bytes) → IsReplaced e ls at m
range-replaced e ls at l r new bytes m f E h b k =
    let s = E.spot in
    let t = located_text ls in
    let base = length (text_of s.above) in
    let rs = spans_of t (classed_lines t) e in
    let one : respanned_bytes (this_line s) rs ≡ take r.start (s.line.bytes ++ []) ++ (new ++ drop r.end (s.line.bytes ++ [])) =
    ap (respanned_bytes (this_line s)) E.spans_are ∙ respanned-one (this_line s) (base + r.start) (base + r.end) r.start r.end new refl refl in
    let left : respanned_bytes (this_line s) rs ≡ m = one ∙ (ap (λ z. take r.start z ++ (new ++ drop r.end z)) (append-nil s.line.bytes ∙ (E.bytes_are ∙ sym b)) ∙ sym k) in
    line-replaced e ls rs s at m f (range-accepted e ls at l r new E h) E.touched_is E.place_is (E.left_is rs ∙ ap (λ z. z ∷ []) left)
