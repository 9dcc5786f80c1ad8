-- The lines after an edit of one place: for code that builds the bytes of its new line.
use Rattle.std.proofs.Common.{◌≡◌, sym, ap, ◌∙◌, subst, arith, ℕ, ◌+◌, ◌-◌, List, [], ◌∷◌, ◌++◌, not, true, length, length-append, take, drop, refl, Option, Some, option_map}
use Rattle.std.specs.Prelude.{Ok}
use Rattle.std.proofs.lemmas.List.{append-nil, append_cancel_left}
use Rattle.mk_lines.specs.LogicalLines.{logical_lines}
use Rattle.mk_lines.proofs.on_lines.LineLemmas.{OneLine-logical}
use Rattle.mk_lines.specs.Pieces.{Replacement, replaced, Piece, old_bytes, new_bytes, replacements}
use Rattle.mk_lines.proofs.on_lists.PieceLemmas.{replaced-pieces}
use Rattle.mk_lines.specs.Cells.{Cell}
use Rattle.mk_lines.specs.PhysicalLines.{line_end_bytes, file_line_end}
use Rattle.mk_class.specs.declared.assignment.Flavor.{Flavor}
use Rattle.mk_class.specs.Classes.{Class, is_conditional}
use Rattle.mk_class.specs.ClassTable.{class_of}
use Rattle.mk_class.specs.ClassedLines.{ClassedLine, classed, classed_lines}
use Rattle.mk_tree.specs.Documents.{text_of, context_of, AreUnconditional}
use Rattle.mk_tree.specs.LineTexts.{line_in}
use Rattle.mk_tree.specs.NewLineEnds.{above_ended}
use Rattle.mk_edit_language.specs.NewLines.{assign_text}
use Rattle.mk_tree.proofs.on_documents.LinesInText.{line-in_text}
use Rattle.mk_edit_language.specs.Edits.{NewAssign, Every, Place, Edit, ChangeValue, ChangeLine, ChangePrereqs, AddLine, AddRecipe, SetRecipe, RemoveLines, SwitchLine, RenameTarget, ExchangeLines, EachLine}
use Rattle.mk_edit_language.specs.Stretches.{Stretch, between, place_found, insertion, removal, touched_by}
use Rattle.mk_edit_language.specs.KeptLines.{IsOfOnePlace, respanned_bytes, edited_bytes, edited_lines, above_after}
use Rattle.mk_edit_language.specs.Refusals.{spans, text_after}
use Rattle.mk_edit_language.specs.RisingSpans.{Rise}
use Rattle.mk_edit_language.proofs.on_edits.RisingSpanLemmas.{Rise-until, Rise-pieces, Rise-within}
use Rattle.mk_edit_language.proofs.on_edits.MadeEdits.{one_place-made}

-- ---- the lines after it

-- an edit that touches some lines is an edit of one place
touched-of_one : (ls : List ClassedLine) (e : Edit) (s : Stretch) → touched_by ls e ≡ Some s → IsOfOnePlace e
touched-of_one ls (ChangeValue Every n c) s p = absurd (cc)
touched-of_one ls (RenameTarget o n) s p = absurd (cc)
touched-of_one ls (ExchangeLines q ts) s p = absurd (cc)
touched-of_one ls (EachLine e) s p = absurd (cc)
touched-of_one ls e s p = tt

-- what is known of an edit by the lines that it touches
pub record IsEdited (t : List ℕ) (e : Edit) (rs : List Replacement) (s : Stretch) : Type 0 where
  pub before : classed_lines t ≡ s.above ++ (s.lines ++ s.below)
  pub after : classed_lines (text_after t e) ≡ above_after t (insertion (classed_lines t) e) s ++ (edited_lines t e s rs ++ s.below)
  pub within : Rise (length (text_of s.above)) (length (text_of s.above) + length (text_of s.lines)) rs
  pub new_plain : AreUnconditional (edited_lines t e s rs)
  pub gone_plain : AreUnconditional s.lines

pub edited : (t : List ℕ) (e : Edit) (rs : List Replacement) (s : Stretch) → touched_by (classed_lines t) e ≡ Some s → spans t e ≡ Ok rs → IsEdited t e rs s
edited t e rs s p h =
    let K = (one_place-made e (touched-of_one (classed_lines t) e s p) t rs h).kept in
    let q : Some K.touched ≡ Some s = sym K.place ∙ p in
    let same : K.touched ≡ s = cc in
    subst (IsEdited t e rs) same (record {
      before = K.before;
      after = K.after ∙ ap (λ z. above_after t (insertion (classed_lines t) e) K.touched ++ (z ++ K.touched.below)) K.new_are;
      within = K.within;
      new_plain = subst AreUnconditional K.new_are K.new_plain;
      gone_plain = K.gone_plain;
    })

-- ---- one new line

-- A text that stands as one line, of no conditional, in the place of the lines that an edit touches.
pub record IsPutThere (t : List ℕ) (e : Edit) (s : Stretch) (m : List ℕ) : Type 0 where
  pub lines : classed_lines (text_after t e) ≡ above_after t (insertion (classed_lines t) e) s ++ line_in (context_of s.above) m ∷ s.below
  pub one : logical_lines m ≡ m ∷ []
  pub plain : not (is_conditional (class_of (context_of s.above) m)) ≡ true

pub put-there : (t : List ℕ) (e : Edit) (rs : List Replacement) (s : Stretch) (m : List ℕ) → touched_by (classed_lines t) e ≡ Some s → spans t e ≡ Ok rs → edited_bytes t e s rs ≡ m ∷ [] → IsPutThere t e s m
put-there t e rs s m p h b =
    let E = edited t e rs s p h in
    let c = context_of s.above in
    let A = above_after t (insertion (classed_lines t) e) s in
    let new : edited_lines t e s rs ≡ line_in c m ∷ [] = ap (classed c) b in
    let lines : classed_lines (text_after t e) ≡ A ++ line_in c m ∷ s.below = E.after ∙ ap (λ z. A ++ (z ++ s.below)) new in
    let plain : AreUnconditional (line_in c m ∷ []) = subst AreUnconditional new E.new_plain in
    record { lines = lines; one = OneLine-logical m (line-in_text (text_after t e) A (line_in c m) s.below lines).one; plain = plain.0 }

-- ---- no new line

pub taken-out : (t : List ℕ) (e : Edit) (rs : List Replacement) (s : Stretch) → touched_by (classed_lines t) e ≡ Some s → spans t e ≡ Ok rs → edited_bytes t e s rs ≡ []
    → classed_lines (text_after t e) ≡ above_after t (insertion (classed_lines t) e) s ++ s.below
taken-out t e rs s p h b =
    (edited t e rs s p h).after ∙ ap (λ z. above_after t (insertion (classed_lines t) e) s ++ (classed (context_of s.above) z ++ s.below)) b

-- an accepted edit that takes lines out leaves the others, each with its class
pub removed-lines : (e : Edit) (t : List ℕ) (rs : List Replacement) (s : Stretch) → spans t e ≡ Ok rs → removal (classed_lines t) e ≡ Some s → classed_lines (text_after t e) ≡ s.above ++ s.below
removed-lines (RemoveLines r) t rs s h k = taken-out t (RemoveLines r) rs s k h refl
removed-lines (ChangeValue w n c) t rs s h k = absurd (cc)
removed-lines (ChangeLine nth n c) t rs s h k = absurd (cc)
removed-lines (ChangePrereqs nth g c) t rs s h k = absurd (cc)
removed-lines (AddLine p l) t rs s h k = absurd (cc)
removed-lines (AddRecipe nth g p c) t rs s h k = absurd (cc)
removed-lines (SetRecipe nth g w c) t rs s h k = absurd (cc)
removed-lines (SwitchLine w nth n) t rs s h k = absurd (cc)
removed-lines (RenameTarget o n) t rs s h k = absurd (cc)
removed-lines (ExchangeLines q ts) t rs s h k = absurd (cc)
removed-lines (EachLine e) t rs s h k = absurd (cc)

-- ---- a new assignment

pub new_assign-lines : (p : Place) (n : List ℕ) (f : Flavor) (v t : List ℕ) (rs : List Replacement) (s : Stretch) → spans t (AddLine p (NewAssign n f v)) ≡ Ok rs → place_found (classed_lines t) p ≡ Some s
    → (k : Class Cell) × (classed_lines (text_after t (AddLine p (NewAssign n f v))) ≡ above_ended (file_line_end t) s.above s.below ++ record { bytes = assign_text n f v ++ line_end_bytes (file_line_end t); class = k } ∷ s.below)
new_assign-lines p n f v t rs s h e =
    let E = AddLine p (NewAssign n f v) in
    let m = assign_text n f v ++ line_end_bytes (file_line_end t) in
    let P = put-there t E rs (between s) m (ap (option_map between) e) h refl in
    (class_of (context_of s.above) m, P.lines ∙ ap (λ (o : Option Stretch). above_after t o (between s) ++ line_in (context_of s.above) m ∷ s.below) e)

-- ---- the bytes of touched lines with their spans replaced

-- the bytes with one range replaced, by its offsets in these lines
pub respanned-one : (s : Stretch) (start end a b : ℕ) (v : List ℕ) → start ≡ length (text_of s.above) + a → end ≡ length (text_of s.above) + b
    → respanned_bytes s (record { start = start; end = end; new = v } ∷ []) ≡ take a (text_of s.lines) ++ (v ++ drop b (text_of s.lines))
respanned-one s start end a b v h k =
    let at = length (text_of s.above) in
    let x : start - at ≡ a = omega (arith, h) in
    let y : end - at ≡ b = omega (arith, k) in
    ap (λ n. take n (text_of s.lines) ++ (v ++ drop (end - at) (text_of s.lines))) x ∙ ap (λ n. take a (text_of s.lines) ++ (v ++ drop n (text_of s.lines))) y

-- the bytes with the replacements made of the pieces with which the lines begin
pub respanned-pieces : (s : Stretch) (ps : List Piece) (rest : List ℕ) → text_of s.lines ≡ old_bytes ps ++ rest → respanned_bytes s (replacements (length (text_of s.above)) ps) ≡ new_bytes ps ++ rest
respanned-pieces s ps rest h =
    let p = text_of s.above in
    let w = old_bytes ps ++ rest in
    let rs = replacements (length p) ps in
    let r : Rise (length p) (length p + length w) rs =
    Rise-until (length p) (length p + length (old_bytes ps)) (length p + length w) rs (Rise-pieces (length p) ps) (omega (arith, length-append (old_bytes ps) rest)) in
    let whole : p ++ (replaced (length p) w rs ++ []) ≡ p ++ (new_bytes ps ++ rest) =
    sym (Rise-within p w [] rs r) ∙ (ap (λ z. replaced 0 (p ++ z) rs) (append-nil w) ∙ replaced-pieces p ps rest) in
    ap (λ z. replaced (length p) z rs) h ∙ (sym (append-nil (replaced (length p) w rs)) ∙ append_cancel_left p (replaced (length p) w rs ++ []) (new_bytes ps ++ rest) whole)
