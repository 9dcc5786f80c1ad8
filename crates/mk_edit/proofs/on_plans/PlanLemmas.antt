-- What the planning of every edit has to show, if its moves lead from the lines before the edit to the lines after it.
use Rattle.std.proofs.Common.{◌≡◌, refl, sym, ap, ◌∙◌, subst, arith, ℕ, ◌+◌, ◌<◌, ◌≤◌, List, [], ◌∷◌, ◌++◌, length, take, Option, Some, None, option_map, inl, inr}
use Rattle.std.specs.Prelude.{◌^◌, ◌-◌, min, Ok, Err, Result, IfOk, IsErrAnd, IsOkUnless}
use Rattle.std.proofs.lemmas.List.{length-map}
use Rattle.std.proofs.Math.Seq.{take-append_seam}
use Rattle.mk_lines.specs.Limits.{max_text}
use Rattle.mk_lines.specs.Pieces.{Replacement}
use Rattle.mk_class.specs.ClassedLines.{ClassedLine, classed_lines}
use Rattle.mk_tree.specs.Documents.{IsFaithful, document_lines, context_of}
use Rattle.mk_tree.specs.LineTexts.{line_in}
use Rattle.mk_tree.specs.LocatedLines.{LocatedLine, located_line, located_lines, located_text, size_of}
use Rattle.mk_tree.proofs.on_documents.DocumentLemmas.{faithful-own}
use Rattle.mk_edit_language.specs.Edits.{One, Every, Edit, ChangeValue, ChangeLine, ChangePrereqs, AddLine, AddRecipe, SetRecipe, RemoveLines, RenameTarget, SwitchLine, ExchangeLines, EachLine}
use Rattle.mk_edit_language.specs.Stretches.{Stretch, between, insertion, touched_by}
use Rattle.mk_edit_language.specs.Costs.{cost, size}
use Rattle.mk_edit_language.specs.KeptLines.{edited_bytes, new_line_bytes}
use Rattle.mk_edit_language.specs.Refusals.{causes, first_cause, spans, text_after}
use Rattle.mk_edit_language.proofs.on_edits.EditLemmas.{edits-read}
use Rattle.mk_edit_language.proofs.on_edits.LengthLemmas.{size-fits}
use Rattle.mk_patch.specs.Moves.{Move, held_by, taken_by}
use Rattle.mk_patch.proofs.on_moves.ShapeLemmas.{LeadTo, same-lead}
use Rattle.mk_edit_language.specs.declared.refusal.Refusal.{Refusal}
use Rattle.mk_edit_language.specs.declared.refusal.Refusal.TheVariants.{NoMemory}
use Rattle.mk_edit_parts.proofs.CauseLemmas.{unrefused}
use Rattle.mk_edit.specs.Planned.{IsPlanned, IsRefusal, Plans, ReadsAnew, ended_lines, new_lines_place}
use Rattle.mk_edit.specs.PlannedMoves.{line_read_at}

-- moves that lead from the lines of the text to those after the edit are what is planned
pub lead-planned : (e : Edit) (ls : List LocatedLine) (rs : List Replacement) (patch : List Move) (before after : List ClassedLine) → IsFaithful ls → spans (located_text ls) e ≡ Ok rs
    → classed_lines (located_text ls) ≡ before → classed_lines (text_after (located_text ls) e) ≡ after → LeadTo patch (located_lines before) (located_lines after)
    → held_by patch ≡ cost (located_text ls) e + ended_lines ls e → taken_by patch ≡ size (located_text ls) e + ended_lines ls e → IsPlanned e ls patch
lead-planned e ls rs patch before after f h b a l held taken =
    let own : located_lines before ≡ ls = ap located_lines (sym b) ∙ sym f in
    let led : located_lines after ≡ document_lines (text_after (located_text ls) e) = ap located_lines (sym a) in
    let L = same-lead patch patch (located_lines before) ls (located_lines after) (document_lines (text_after (located_text ls) e)) refl own led l in
    record {
      replacements = rs;
      spans_are = h;
      fit = L.fit;
      leads = L.lead;
      faithful = faithful-own _ (text_after (located_text ls) e) L.lead;
      reads = edits-read e (located_text ls) rs h;
      held = held;
      taken = taken;
    }

-- the lines after an accepted edit are within the limit
pub after-fits : (t : List ℕ) (e : Edit) (rs : List Replacement) (after : List ClassedLine) → spans t e ≡ Ok rs → classed_lines (text_after t e) ≡ after → size_of (located_lines after) ≤ max_text
after-fits t e rs after h a = subst (λ (z : List ClassedLine). size_of (located_lines z) ≤ max_text) a (size-fits t e rs h)

-- ---- a place of a faithful document

-- a faithful document has as many lines as its text
pub faithful-length : (ls : List LocatedLine) (before : List ClassedLine) → IsFaithful ls → classed_lines (located_text ls) ≡ before → length ls ≡ length before
faithful-length ls before f b = ap length f ∙ (length-map (classed_lines (located_text ls)) located_line ∙ ap length b)

-- a line read at a place is one in the context of the lines above it
pub read-at : (ls : List LocatedLine) (above rest : List ClassedLine) (at : ℕ) (m : List ℕ) → classed_lines (located_text ls) ≡ above ++ rest → length above ≡ at
    → line_read_at ls at m ≡ located_line (line_in (context_of above) m)
read-at ls above rest at m b p =
    let front : take at (classed_lines (located_text ls)) ≡ above = ap (take at) b ∙ (ap (λ n. take n (above ++ rest)) (sym p) ∙ take-append_seam above rest) in
    ap (λ (z : List ClassedLine). located_line (line_in (context_of z) m)) front

-- ---- edits of one place, by what they leave

-- no edit that puts a line in touches one
touched-some : (o : Option Stretch) (s : Stretch) → option_map between o ≡ Some s → 0 < length s.lines → ⊥
touched-some None s h few = cc
touched-some (Some x) s h few = let k : between x ≡ s = cc in let z : 0 ≡ length s.lines = ap (λ (q : Stretch). length q.lines) k in omega (arith, z, few)

none-between : (o : Option Stretch) (s : Stretch) → option_map between o ≡ Some s → 0 < length s.lines → o ≡ None
none-between None s h few = refl
none-between (Some x) s h few = absurd (touched-some (Some x) s h few)

-- one that touches some lines puts no line between them
pub touched-none_put : (ls : List ClassedLine) (e : Edit) (s : Stretch) → touched_by ls e ≡ Some s → 0 < length s.lines → insertion ls e ≡ None
touched-none_put ls (AddLine p l) s h few = none-between (insertion ls (AddLine p l)) s h few
touched-none_put ls (AddRecipe nth g p c) s h few = none-between (insertion ls (AddRecipe nth g p c)) s h few
touched-none_put ls e s h few = refl

-- an edit that leaves no line puts no line in
pub removed-none_put : (t : List ℕ) (e : Edit) (rs : List Replacement) (s : Stretch) → edited_bytes t e s rs ≡ [] → insertion (classed_lines t) e ≡ None
removed-none_put t (AddLine p l) rs s h = absurd (cc)
removed-none_put t (AddRecipe nth g p c) rs s h = absurd (cc)
removed-none_put t e rs s h = refl

-- an edit that touches lines of one place puts new lines only where it puts one in
pub touched-place : (ls : List ClassedLine) (e : Edit) (s : Stretch) → touched_by ls e ≡ Some s → new_lines_place ls e ≡ insertion ls e
touched-place ls (ExchangeLines x ts) s h = absurd (cc)
touched-place ls e s h = refl

-- an edit that leaves one line where it touches one line reads that line again, and replaces one line
pub record ChangesOne (t : List ℕ) (e : Edit) : Type 0 where
  pub cost_is : cost t e ≡ 1
  pub size_is : size t e ≡ 1

pub changes-one : (t : List ℕ) (e : Edit) (rs : List Replacement) (s : Stretch) (m : List ℕ) → touched_by (classed_lines t) e ≡ Some s → 0 < length s.lines → edited_bytes t e s rs ≡ m ∷ [] → ChangesOne t e
changes-one t (ChangeValue (One nth) n c) rs s m h few k = record { cost_is = refl; size_is = refl }
changes-one t (ChangeValue Every n c) rs s m h few k = absurd (cc)
changes-one t (ChangeLine nth n c) rs s m h few k = record { cost_is = refl; size_is = refl }
changes-one t (ChangePrereqs nth g c) rs s m h few k = record { cost_is = refl; size_is = refl }
changes-one t (SetRecipe nth g w c) rs s m h few k = record { cost_is = refl; size_is = refl }
changes-one t (SwitchLine w nth n) rs s m h few k = record { cost_is = refl; size_is = refl }
changes-one t (AddLine p l) rs s m h few k = absurd (touched-some (insertion (classed_lines t) (AddLine p l)) s h few)
changes-one t (AddRecipe nth g p c) rs s m h few k = absurd (touched-some (insertion (classed_lines t) (AddRecipe nth g p c)) s h few)
changes-one t (RemoveLines r) rs s m h few k = absurd (cc)
changes-one t (RenameTarget o n) rs s m h few k = absurd (cc)
changes-one t (ExchangeLines x ts) rs s m h few k = absurd (cc)
changes-one t (EachLine x) rs s m h few k = absurd (cc)

-- what is known of an edit that puts a line in
pub record PutsIn (t : List ℕ) (e : Edit) (rs : List Replacement) (s : Stretch) : Type 0 where
  pub place : touched_by (classed_lines t) e ≡ Some (between s)
  pub bytes : edited_bytes t e (between s) rs ≡ new_line_bytes t e s ∷ []
  pub one : cost t e ≡ 1
  pub none : size t e ≡ 0

pub puts-in : (t : List ℕ) (e : Edit) (rs : List Replacement) (s : Stretch) → insertion (classed_lines t) e ≡ Some s → PutsIn t e rs s
puts-in t (AddLine p l) rs s h = record { place = ap (option_map between) h; bytes = refl; one = refl; none = refl }
puts-in t (AddRecipe nth g p c) rs s h = record { place = ap (option_map between) h; bytes = refl; one = refl; none = refl }
puts-in t e rs s h = absurd (cc)

-- ---- the answers of planning

-- a refusal, before a line is read
pub refused-first : (e : Edit) (ls : List LocatedLine) (read : ℕ) (r : Refusal) → IsRefusal (located_text ls) e r → Plans e ls read read (Err r)
refused-first e ls read r h = record { planned = tt; refused = h; counted = tt; few_read = omega arith; forward = omega arith }

-- a refusal that is handed on, before a line is read
pub refused-on : (e : Edit) (ls : List LocatedLine) (read : ℕ) (r : Refusal) (result : Result (List Move) Refusal) → IsErrAnd result (λ q. q ≡ r) → spans (located_text ls) e ≡ Err r → Plans e ls read read result
refused-on e ls read r (Ok patch) i h = absurd i
refused-on e ls read r (Err q) i h = refused-first e ls read q (inl (h ∙ ap Err (sym i)))

-- a growth was refused, before a line was read
pub memory-first : (e : Edit) (ls : List LocatedLine) (read : ℕ) (rs : List Replacement) → spans (located_text ls) e ≡ Ok rs → Plans e ls read read (Err NoMemory)
memory-first e ls read rs h = refused-first e ls read NoMemory (inr (refl, inl (rs, h)))

-- a call makes the planned moves, and reads as many lines as the edit costs
pub moves-made : (e : Edit) (ls : List LocatedLine) (moves : List Move) (lines before after : ℕ) (r : Result (List Move) Refusal) → IsPlanned e ls moves → cost (located_text ls) e ≡ lines
    → IfOk r (λ patch. patch ≡ moves) → ReadsAnew lines before after r → Plans e ls before after r
moves-made e ls moves lines before after (Ok patch) P costs h R =
    record { planned = subst (IsPlanned e ls) (sym h) P; refused = tt; counted = rw costs R.counted; few_read = omega (arith, costs, R.few_read); forward = R.forward }
moves-made e ls moves lines before after (Err x) P costs h R =
    record { planned = tt; refused = inr (R.refused, inl (P.replacements, P.spans_are)); counted = tt; few_read = omega (arith, costs, R.few_read); forward = R.forward }

-- a call plans an edit that no cause refuses, and reads as many lines as the edit costs
pub accepted-planned : (e : Edit) (ls : List LocatedLine) (before after : ℕ) (r : Result (List Move) Refusal) → first_cause (causes (located_text ls) (classed_lines (located_text ls)) e) ≡ None
    → IfOk r (λ patch. IsPlanned e ls patch) → ReadsAnew (cost (located_text ls) e) before after r → Plans e ls before after r
accepted-planned e ls before after (Ok patch) none P R = record { planned = P; refused = tt; counted = R.counted; few_read = R.few_read; forward = R.forward }
accepted-planned e ls before after (Err x) none P R = record { planned = tt; refused = inr (R.refused, inl (_, unrefused (located_text ls) e none)); counted = tt; few_read = R.few_read; forward = R.forward }

-- a call makes the planned moves of an edit that costs nothing, and reads no line
pub moves-unread : (e : Edit) (ls : List LocatedLine) (moves : List Move) (r : Result (List Move) Refusal) → IsPlanned e ls moves → cost (located_text ls) e ≡ 0
    → IfOk r (λ patch. patch ≡ moves) → IsOkUnless r NoMemory → (read : ℕ) → Plans e ls read read r
moves-unread e ls moves (Ok patch) P costs h u read =
    moves-made e ls moves 0 read read (Ok patch) P costs h (record { refused = u; counted = ap (λ n. min n (2 ^ 64 - 1)) (omega arith); few_read = omega arith; forward = omega arith })
moves-unread e ls moves (Err x) P costs h u read = refused-first e ls read x (inr (u, inl (P.replacements, P.spans_are)))
