-- An edit of several lines that is checked by reading: what the text after it reads as, which lines it leaves, and what it makes of
-- the other lines.
use Rattle.std.proofs.Common.{◌≡◌, refl, sym, ap, ◌∙◌, subst, ℕ, List, [], ◌∷◌, ◌+◌, length}
use Rattle.std.specs.Prelude.{Ok}
use Rattle.mk_lines.specs.Pieces.{Replacement, replaced, replacements}
use Rattle.mk_class.specs.Contexts.{Context, start, context_after}
use Rattle.mk_class.specs.ClassedLines.{classed_lines}
use Rattle.mk_tree.specs.Items.{items}
use Rattle.mk_tree.specs.Readings.{reading}
use Rattle.mk_tree.specs.EachReplaced.{ReplaceEach}
use Rattle.mk_tree.proofs.on_documents.LinesInText.{AreClassed, AreClassed-class, AreClassed-tail, AreClassed-lines}
use Rattle.mk_edit_language.specs.Edits.{EachEdit, EachLine}
use Rattle.mk_edit_language.specs.EachLine.{EachChange, MarkedLine, lines_meant, marked, each_change, marked_pieces, marked_spans, is_each_changed, each_bytes}
use Rattle.mk_edit_language.specs.Refusals.{spans, text_by, text_after}
use Rattle.mk_edit_language.specs.Changes.{change}
use Rattle.mk_edit_language.specs.LinesInPlace.{StandInLines, IsEachInPlace, AreOthersKeptByEachLine}
use Rattle.mk_edit_language.specs.declared.refusal.Refusal.TheVariants.{Misread}
use Rattle.mk_edit_language.proofs.on_edits.Accepted.{accepted, where_holds-none}
use Rattle.mk_edit_language.proofs.on_edits.KeptApartLemmas.{apart-kept}
use Rattle.mk_edit_language.proofs.on_edits.KeptByRenameTargetLemmas.{unreplaced-spans}
use Rattle.mk_edit_language.proofs.on_each_line.EachLineSpans.{unmarked, unmarked-marked_by, marked-rises}
use Rattle.mk_edit_language.proofs.on_each_line.EachLinesMade.{IsTextMade, text-made}

-- the lines of the text, without their marks
each-whole : (t : List ℕ) (e : EachEdit) → classed_lines t ≡ unmarked (marked e (classed_lines t))
each-whole t e = let ls = classed_lines t in sym (unmarked-marked_by (lines_meant ls e) 0 ls)

-- the lines after an accepted edit
each-text : (e : EachEdit) (t : List ℕ) (rs : List Replacement) → spans t (EachLine e) ≡ Ok rs → IsTextMade (each_change e) t (marked e (classed_lines t))
each-text e t rs h = text-made (each_change e) t (marked e (classed_lines t)) (each-whole t e) (where_holds-none _ Misread (accepted t (EachLine e) rs h).not_misread)

-- the text after it
each-after : (e : EachEdit) (t : List ℕ) (rs : List Replacement) → spans t (EachLine e) ≡ Ok rs → text_after t (EachLine e) ≡ replaced 0 t (marked_spans (each_change e) 0 (marked e (classed_lines t)))
each-after e t rs h = ap (text_by t) h ∙ ap (replaced 0 t) (sym (accepted t (EachLine e) rs h).spans_are)

-- the text after it reads as stated
pub each_line-reads : (e : EachEdit) (t : List ℕ) (rs : List Replacement) → spans t (EachLine e) ≡ Ok rs → reading (text_after t (EachLine e)) ≡ change t (EachLine e)
each_line-reads e t rs h = let T = each-text e t rs h in ap reading (each-after e t rs h) ∙ (ap items T.lines ∙ T.made.reads)

-- the spans stand within the lines that are changed
spans-stand : (c : EachChange) (context : Context) (at : ℕ) (ms : List MarkedLine) → AreClassed context (unmarked ms) → StandInLines (λ (m : MarkedLine). m.line) (is_each_changed c) at ms (marked_spans c at ms)
spans-stand c context at [] h = refl
spans-stand c context at (m ∷ ms) h =
    let l = m.line in
    let n = at + length l.bytes in (
      replacements at (marked_pieces c m),
      marked_spans c n ms,
      refl,
      marked-rises c context m at (AreClassed-class context l (unmarked ms) h),
      unreplaced-spans at (marked_pieces c m),
      spans-stand c (context_after context l.class) n ms (AreClassed-tail context l (unmarked ms) h),
    )

-- it leaves the lines that it does not change, and makes each other line in its place
pub each_line-keeps : (e : EachEdit) (t : List ℕ) (rs : List Replacement) → spans t (EachLine e) ≡ Ok rs → AreOthersKeptByEachLine e t rs
each_line-keeps e t rs h =
    let c = each_change e in
    let ms = marked e (classed_lines t) in
    let T = each-text e t rs h in
    let whole : classed_lines t ≡ unmarked ms = each-whole t e in
    apart-kept t (EachLine e) rs (λ (m : MarkedLine). m.line) ms (is_each_changed c) (each_bytes c) (IsEachInPlace c) T.made.after (sym whole) (λ x m l r. r.in_place.same)
    (subst (StandInLines (λ (m : MarkedLine). m.line) (is_each_changed c) 0 ms) (accepted t (EachLine e) rs h).spans_are (spans-stand c start 0 ms (AreClassed-lines t (unmarked ms) whole))) refl
    (record {
      are = ap classed_lines (each-after e t rs h) ∙ T.lines;
      bytes = T.made.bytes;
      in_place = T.made.in_place;
      each = subst (λ z. ReplaceEach start z T.made.after []) (sym whole) T.made.each;
    })
