-- What an edit of one place makes of the lines, and of the reading: by what it does to lines.
use Rattle.std.proofs.Common.{◌≡◌, refl, sym, ap, ◌∙◌, subst, arith, ℕ, List, [], ◌∷◌, ◌++◌, Bool, true, false, not, cond, max, length, ◌+◌, ◌≤◌, Option, Some, None, option_map}
use Rattle.std.proofs.lemmas.List.{append-nil, append_cancel_left, append_cancel_right}
use Rattle.std.specs.Prelude.{Ok}
use Rattle.mk_lines.specs.PhysicalLines.{line_end_bytes, file_line_end}
use Rattle.mk_lines.specs.declared.ends.End.{End}
use Rattle.mk_lines.specs.Pieces.{Replacement, replaced}
use Rattle.mk_lines.specs.Cells.{Cell}
use Rattle.mk_class.specs.Classes.{Class, is_conditional}
use Rattle.mk_class.specs.Contexts.{Context, start, conditionals_after}
use Rattle.mk_class.specs.ClassTable.{class_of}
use Rattle.mk_class.specs.ClassedLines.{ClassedLine, classed, classed_lines}
use Rattle.mk_tree.specs.Documents.{text_of, context_of, most_conditionals, AreUnconditional}
use Rattle.mk_tree.specs.Items.{Item, items}
use Rattle.mk_tree.specs.Readings.{reading}
use Rattle.mk_tree.specs.Leaning.{AgreeButForFlag}
use Rattle.mk_tree.specs.NewLineEnds.{above_ended, last_ended, lacks_line_end, with_line_end}
use Rattle.mk_tree.proofs.on_documents.LinesInText.{line-in_text, reading-three}
use Rattle.mk_tree.proofs.on_changes.NewLineLemmas.{file_line_end-some, items-above_ended}
use Rattle.mk_tree.proofs.on_changes.RunsReplaced.{text-run_replaced, run-removed}
use Rattle.mk_tree.proofs.on_documents.ConditionalLemmas.{most_conditionals-run_replaced}
use Rattle.mk_tree.specs.LineTexts.{StandingLine}
use Rattle.mk_edit_language.specs.Edits.{Edit, Removal, RemoveLines}
use Rattle.mk_edit_language.specs.Stretches.{Stretch, this_line, between, insertion, removed, touched_by}
use Rattle.mk_edit_language.specs.NewLines.{new_line_span}
use Rattle.mk_edit_language.specs.EditSpans.{removed_span}
use Rattle.mk_edit_language.specs.LineCauses.{removal_leans}
use Rattle.mk_edit_language.specs.Costs.{cost, size}
use Rattle.mk_edit_language.specs.Refusals.{spans, text_by, text_after}
use Rattle.mk_edit_language.specs.Changes.{with_items, change}
use Rattle.mk_edit_language.specs.RisingSpans.{Rise}
use Rattle.mk_edit_language.specs.KeptLines.{new_line_bytes, respanned_bytes, edited_bytes, edited_lines, above_after, AreOthersKept}
use Rattle.mk_edit_language.proofs.on_edits.Accepted.{accepted}
use Rattle.mk_edit_language.proofs.on_edits.RisingSpanLemmas.{Rise-within}
use Rattle.mk_edit_language.proofs.on_edits.EditPlaces.{touched-stretch}
use Rattle.mk_edit_language.proofs.on_edits.SpansRise.{spans-within}
use Rattle.mk_edit_language.proofs.on_lines.LineReplaced.{IsLineReplaced}
use Rattle.mk_edit_language.proofs.on_new_lines.NewLineStands.{NewStands, stands-lines}

-- ---- lines in the place of those that an edit touches

-- a line end put after the last line opens no conditional
depth-last_ended : (n : ℕ) (e : End) (above below : List ClassedLine) → most_conditionals n (last_ended e above ++ below) ≡ most_conditionals n (above ++ below)
depth-last_ended n e [] below = refl
depth-last_ended n e (l ∷ []) below = go (lacks_line_end l)
  where
    go : (b : Bool) → most_conditionals n (cond b (with_line_end e l) l ∷ below) ≡ most_conditionals n (l ∷ below)
    go true = refl
    go false = refl
depth-last_ended n e (l ∷ k ∷ above) below = ap (max n) (depth-last_ended (conditionals_after n l.class) e (k ∷ above) below)

depth-above : (t : List ℕ) (o : Option Stretch) (s : Stretch) (rest : List ClassedLine) → most_conditionals 0 (above_after t o s ++ rest) ≡ most_conditionals 0 (s.above ++ rest)
depth-above t None s rest = refl
depth-above t (Some n) s rest = ended s.below
  where
    ended : (below : List ClassedLine) → most_conditionals 0 (above_ended (file_line_end t) s.above below ++ rest) ≡ most_conditionals 0 (s.above ++ rest)
    ended [] = depth-last_ended 0 (file_line_end t) s.above rest
    ended (b ∷ below) = refl

-- What is known of an accepted edit of one place: what it leaves, and what the text after it reads as.
pub record IsMade (t : List ℕ) (e : Edit) (rs : List Replacement) : Type 0 where
  pub kept : AreOthersKept t e rs
  pub reads : reading (text_after t e) ≡ change t e

-- lines of a text after an edit, in the place of those that it touches
record AreInStead (t : List ℕ) (e : Edit) (rs : List Replacement) (s : Stretch) (new : List ClassedLine) : Type 0 where
  place : touched_by (classed_lines t) e ≡ Some s
  after : classed_lines (replaced 0 t rs) ≡ above_after t (insertion (classed_lines t) e) s ++ (new ++ s.below)
  above_items : items (above_after t (insertion (classed_lines t) e) s) ≡ items s.above
  new_are : new ≡ edited_lines t e s rs
  few_new : length new ≤ cost t e
  few_gone : length s.lines ≤ size t e
  new_plain : AreUnconditional new
  gone_plain : AreUnconditional s.lines
  change_is : change t e ≡ with_items (items new) s

-- The items of these lines stand in the reading in the place of those of the touched ones, and no other item changes.
in_stead-made : (t : List ℕ) (e : Edit) (rs : List Replacement) (s : Stretch) (new : List ClassedLine) → spans t e ≡ Ok rs → AreInStead t e rs s new → IsMade t e rs
in_stead-made t e rs s new h M =
    let A = above_after t (insertion (classed_lines t) e) s in
    let before = touched-stretch (classed_lines t) e s M.place in
    let after : classed_lines (text_after t e) ≡ A ++ (new ++ s.below) = ap (λ q. classed_lines (text_by t q)) h ∙ M.after in
    record {
      kept = record {
        touched = s;
        new = new;
        place = M.place;
        before = before;
        after = after;
        new_are = M.new_are;
        within = subst (Rise (length (text_of s.above)) (length (text_of s.above) + length (text_of s.lines))) (accepted t e rs h).spans_are (spans-within t e s M.place);
        few_new = M.few_new;
        few_gone = M.few_gone;
        new_plain = M.new_plain;
        gone_plain = M.gone_plain;
        same_depth =
            ap (most_conditionals 0) after
            ∙ (depth-above t (insertion (classed_lines t) e) s (new ++ s.below)
            ∙ (most_conditionals-run_replaced start s.above s.lines new s.below M.gone_plain M.new_plain ∙ ap (most_conditionals 0) (sym before)));
      };
      reads = reading-three (text_after t e) A new s.below after ∙ (ap (λ z. z ++ (items new ++ items s.below)) M.above_items ∙ sym M.change_is);
    }

-- a line with its class
one-line : (c : Context) (m : ClassedLine) (b : List ℕ) → m.bytes ≡ b → class_of c m.bytes ≡ m.class → m ∷ [] ≡ classed c (b ∷ [])
one-line c m b h k =
    ap (λ (q : Class Cell). record { bytes = m.bytes; class = q } ∷ []) (sym k) ∙ ap (λ z. record { bytes = z; class = class_of c z } ∷ []) h

-- ---- a line replaced

-- a line in the place of one, whose spans alone were replaced in the text
pub line-respanned : (t : List ℕ) (rs : List Replacement) (A : List ClassedLine) (l : ClassedLine) (B : List ClassedLine) (m : ClassedLine) → classed_lines t ≡ A ++ l ∷ B
    → classed_lines (replaced 0 t rs) ≡ A ++ m ∷ B → Rise (length (text_of A)) (length (text_of A) + length l.bytes) rs → m.bytes ≡ replaced (length (text_of A)) l.bytes rs
line-respanned t rs A l B m w k r =
    let at = length (text_of A) in
    append_cancel_right m.bytes (replaced at l.bytes rs) (text_of B)
    (append_cancel_left (text_of A) (m.bytes ++ text_of B) (replaced at l.bytes rs ++ text_of B)
    (sym (line-in_text (replaced 0 t rs) A m B k).text ∙ (ap (λ q. replaced 0 q rs) (line-in_text t A l B w).text ∙ Rise-within (text_of A) l.bytes (text_of B) rs r)))

-- an edit in which one line, of no conditional, stands in the place of one
pub line_in_stead-made : (t : List ℕ) (e : Edit) (rs : List Replacement) (s : StandingLine) (m : ClassedLine) → spans t e ≡ Ok rs → touched_by (classed_lines t) e ≡ Some (this_line s)
    → classed_lines (replaced 0 t rs) ≡ s.above ++ m ∷ s.below → not (is_conditional m.class) ≡ true → change t e ≡ with_items (items (m ∷ [])) (this_line s) → insertion (classed_lines t) e ≡ None
    → edited_bytes t e (this_line s) rs ≡ respanned_bytes (this_line s) rs ∷ [] → 1 ≤ cost t e → 1 ≤ size t e → not (is_conditional s.line.class) ≡ true → IsMade t e rs
line_in_stead-made t e rs s m h p lines plain g n d c z u =
    let at = length (text_of s.above) in
    let before = touched-stretch (classed_lines t) e (this_line s) p in
    let within = subst (Rise at (at + length (text_of (s.line ∷ [])))) (accepted t e rs h).spans_are (spans-within t e (this_line s) p) in
    let bytes : m.bytes ≡ respanned_bytes (this_line s) rs =
    line-respanned t rs s.above s.line s.below m before lines (subst (λ q. Rise at (at + length q) rs) (append-nil s.line.bytes) within) ∙ ap (λ q. replaced at q rs) (sym (append-nil s.line.bytes)) in
    let class : class_of (context_of s.above) m.bytes ≡ m.class = (line-in_text (replaced 0 t rs) s.above m s.below lines).class in
    in_stead-made t e rs (this_line s) (m ∷ []) h (record {
      place = p;
      after = lines ∙ ap (λ (o : Option Stretch). above_after t o (this_line s) ++ m ∷ s.below) (sym n);
      above_items = ap (λ (o : Option Stretch). items (above_after t o (this_line s))) n;
      new_are = one-line (context_of s.above) m (respanned_bytes (this_line s) rs) bytes class ∙ ap (classed (context_of s.above)) (sym d);
      few_new = omega (arith, c);
      few_gone = omega (arith, z);
      new_plain = (plain, tt);
      gone_plain = (u, tt);
      change_is = g;
    })

-- an edit that changes one line, which reads as one item
pub replaced-made : (t : List ℕ) (e : Edit) (rs : List Replacement) (s : StandingLine) (i : Item) → spans t e ≡ Ok rs → touched_by (classed_lines t) e ≡ Some (this_line s)
    → IsLineReplaced (replaced 0 t rs) s.above s.below i → change t e ≡ with_items (i ∷ []) (this_line s) → insertion (classed_lines t) e ≡ None
    → edited_bytes t e (this_line s) rs ≡ respanned_bytes (this_line s) rs ∷ [] → 1 ≤ cost t e → 1 ≤ size t e → not (is_conditional s.line.class) ≡ true → IsMade t e rs
replaced-made t e rs s i h p r g n d c z u =
    line_in_stead-made t e rs s r.line h p r.lines r.unconditional (g ∙ ap (λ z. with_items (z ++ []) (this_line s)) (sym r.item)) n d c z u

-- ---- lines taken out

pub removed-made : (t : List ℕ) (r : Removal) (rs : List Replacement) (s : Stretch) → spans t (RemoveLines r) ≡ Ok rs → removed (classed_lines t) r ≡ Some s
    → AgreeButForFlag (context_of s.above) (context_of (s.above ++ s.lines)) → removal_leans (Some s) ≡ false → removed_span s ≡ rs
    → change t (RemoveLines r) ≡ with_items [] s → length s.lines ≤ size t (RemoveLines r) → AreUnconditional s.lines → IsMade t (RemoveLines r) rs
removed-made t r rs s h p agree free k g z u =
    let e = RemoveLines r in
    let before = touched-stretch (classed_lines t) e s p in
    in_stead-made t e rs s [] h (record {
      place = p;
      after = ap (λ q. classed_lines (replaced 0 t q)) (sym k) ∙ (ap classed_lines (text-run_replaced t s.above s.lines s.below [] before) ∙ run-removed t s.above s.lines s.below before agree free);
      above_items = refl;
      new_are = refl;
      few_new = omega arith;
      few_gone = z;
      new_plain = tt;
      gone_plain = u;
      change_is = g;
    })

-- ---- a new line

pub added-made : (t : List ℕ) (e : Edit) (rs : List Replacement) (i : Item) → spans t e ≡ Ok rs → (S : NewStands t e i) → touched_by (classed_lines t) e ≡ option_map between (insertion (classed_lines t) e)
    → new_line_span t e S.stretch ≡ rs → edited_bytes t e (between S.stretch) rs ≡ new_line_bytes t e S.stretch ∷ [] → 1 ≤ cost t e → change t e ≡ with_items (i ∷ []) S.stretch → IsMade t e rs
added-made t e rs i h S p k d c g =
    let s = S.stretch in
    let E = file_line_end t in
    let x = S.text ++ line_end_bytes E in
    let m : ClassedLine = record { bytes = x; class = S.class } in
    let Z = S.stands in
    in_stead-made t e rs (between s) (m ∷ []) h (record {
      place = p ∙ ap (option_map between) S.found_is;
      after = ap (λ q. classed_lines (replaced 0 t q)) (sym k) ∙ (stands-lines t e s S.text S.class S.text_is Z ∙ ap (λ (o : Option Stretch). above_after t o (between s) ++ m ∷ s.below) (sym S.found_is));
      above_items = ap (λ (o : Option Stretch). items (above_after t o (between s))) S.found_is ∙ items-above_ended t s.above s.below E Z.whole Z.not_open (file_line_end-some t);
      new_are = one-line (context_of s.above) m x refl Z.class ∙ ap (classed (context_of s.above)) (sym (d ∙ ap (λ z. (z ++ line_end_bytes E) ∷ []) S.text_is));
      few_new = omega (arith, c);
      few_gone = omega arith;
      new_plain = (S.plain, tt);
      gone_plain = tt;
      change_is = g ∙ ap (λ z. with_items (z ++ []) s) (sym S.item);
    })
