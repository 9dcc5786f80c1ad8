-- The patch of an edit of several lines of which no cause holds but perhaps Misread: its moves lead from the lines of a document to
-- those after the edit, and hold few lines; and what is told if a new line is misread.
use Rattle.std.proofs.Common.{◌≡◌, refl, sym, ap, ◌∙◌, subst, arith, ℕ, ◌+◌, ◌≤◌, Bool, true, false, List, [], ◌∷◌, ◌++◌, length, filter, map, inl, inr}
use Rattle.std.specs.Prelude.{Ok, Err, Result, IfOk, ◌⊎◌, ◌&&◌, ◌||◌, if◌then◌else◌}
use Rattle.std.proofs.lemmas.Bool.{and_parts}
use Rattle.mk_lines.specs.Limits.{max_text}
use Rattle.mk_lines.specs.Cells.{Cell}
use Rattle.mk_class.specs.Classes.{Class}
use Rattle.mk_class.specs.ClassedLines.{ClassedLine, classed_lines}
use Rattle.mk_class.specs.Contexts.{Context, start, context_after}
use Rattle.mk_tree.specs.Documents.{IsFaithful}
use Rattle.mk_tree.specs.LocatedLines.{LocatedLine, located_line, located_lines, located_text, size_of}
use Rattle.mk_tree.proofs.on_documents.LinesInText.{AreClassed, AreClassed-class, AreClassed-tail, AreClassed-lines}
use Rattle.mk_edit_language.specs.Causes.{where_holds}
use Rattle.mk_edit_language.specs.Costs.{cost}
use Rattle.mk_edit_language.specs.EachLine.{EachChange, MarkedLine, each_change, is_change_misread, is_each_changed, lines_meant, marked}
use Rattle.mk_edit_language.specs.Edits.{EachEdit, EachLine}
use Rattle.mk_edit_language.specs.EditSpans.{spans_of}
use Rattle.mk_edit_language.specs.LineCauses.{is_any_misread, misread}
use Rattle.mk_edit_language.specs.Refusals.{causes, first_cause, spans, text_after}
use Rattle.mk_edit_language.specs.declared.refusal.Refusal.{Refusal}
use Rattle.mk_edit_language.specs.declared.refusal.Refusal.TheVariants.{Misread, NoMemory}
use Rattle.mk_edit_language.proofs.on_each_line.EachLineLemmas.{each_line-keeps}
use Rattle.mk_edit_language.proofs.on_each_line.EachLineSpans.{unmarked, unmarked-marked_by}
use Rattle.mk_edit_parts.proofs.CauseLemmas.{refused, unrefused}
use Rattle.mk_patch.specs.Moves.{Move, held_by, taken_by}
use Rattle.mk_patch.proofs.on_moves.ShapeLemmas.{LeadTo}
use Rattle.mk_edit.specs.EachLinePatches.{any_misread, each_moves, is_note_misread, turn_moves}
use Rattle.mk_edit.specs.EachLineSurveys.{NotedLine}
use Rattle.mk_edit.specs.LineChangePlans.{AreRead}
use Rattle.mk_edit.specs.Planned.{IsPlanned, IsUnrefused, Plans}
use Rattle.mk_edit.specs.declared.rename_target_effect.Turn.TheVariants as turn
use Rattle.mk_edit.proofs.on_plans.PlanLemmas.{after-fits, lead-planned}
use Rattle.mk_edit.proofs.on_plans.TurnPlans.{first_turn, second_turn, turns-held, turns-lead, turns-taken}
use Rattle.mk_edit.proofs.on_each_lines.EachTurns.{CanEachChange, changed_where, is_exchanged_in, lines-become, lines-turn, longer, new_line, note_of, notes-number, notes_of, old_line, turn-exchanges}

-- ---- whether a new line is misread

misread-told : (c : EachChange) (at : ℕ) (x : Context) (ms : List MarkedLine) → AreClassed x (unmarked ms) → any_misread c (notes_of c at x ms) ≡ is_any_misread c x ms
misread-told c at x [] A = refl
misread-told c at x (m ∷ ms) A = go (is_each_changed c m) (misread-told c (at + 1) (context_after x m.line.class) ms (AreClassed-tail x m.line (unmarked ms) A))
  where
    below : List NotedLine
    below = notes_of c (at + 1) (context_after x m.line.class) ms

    after : Bool
    after = is_any_misread c (context_after x m.line.class) ms

    here : is_note_misread c (note_of c at x m) ≡ is_change_misread c x m.line
    here = ap (λ (k : Class Cell). is_change_misread c x (record { bytes = m.line.bytes; class = k })) (AreClassed-class x m.line (unmarked ms) A)

    go : (b : Bool) → any_misread c below ≡ after → any_misread c (if b then note_of c at x m ∷ below else below) ≡ ((b && is_change_misread c x m.line) || after)
    go true i = ap (λ z. z || any_misread c below) here ∙ ap (λ z. is_change_misread c x m.line || z) i
    go false i = i

-- ---- the lines of a document

module _ (e : EachEdit) (ls : List LocatedLine) where
  abbrev text : List ℕ
  text = located_text ls

  abbrev before : List ClassedLine
  before = classed_lines text

  abbrev c : EachChange
  c = each_change e

  abbrev ms : List MarkedLine
  ms = marked e before

  -- the notes of its lines that are changed
  abbrev pub notes_in : List NotedLine
  notes_in = notes_of c 0 start ms

  whole : unmarked ms ≡ before
  whole = unmarked-marked_by (lines_meant before e) 0 before

  pub marked-classed : AreClassed start (unmarked ms)
  marked-classed = AreClassed-lines text (unmarked ms) (sym whole)

  each-costs : length notes_in ≡ cost text (EachLine e)
  each-costs = notes-number c 0 start ms

  -- the cause Misread
  misread-is : misread before (EachLine e) ≡ where_holds (any_misread c notes_in) Misread
  misread-is = ap (λ b. where_holds b Misread) (sym (misread-told c 0 start ms marked-classed))

  -- no other cause holds
  abbrev pub IsDecided : Type 0
  IsDecided = first_cause (causes text before (EachLine e)) ≡ first_cause (misread before (EachLine e) ∷ [])

  decided : IsDecided → (b : Bool) → any_misread c notes_in ≡ b → first_cause (causes text before (EachLine e)) ≡ first_cause (where_holds b Misread ∷ [])
  decided h b k = h ∙ (ap (λ o. first_cause (o ∷ [])) misread-is ∙ ap (λ z. first_cause (where_holds z Misread ∷ [])) k)

  each-misread : IsDecided → any_misread c notes_in ≡ true → spans text (EachLine e) ≡ Err Misread
  each-misread h k = refused text (EachLine e) Misread (decided h true k)

  pub each-unrefused : IsDecided → IsUnrefused text (EachLine e)
  each-unrefused h = go (any_misread c notes_in) refl
    where
      go : (b : Bool) → any_misread c notes_in ≡ b → IsUnrefused text (EachLine e)
      go true k = inr (inl (each-misread h k))
      go false k = inl (_, unrefused text (EachLine e) (decided h false k))

  -- the moves of the notes are what is planned
  each-planned : IsFaithful ls → size_of ls ≤ max_text → IsDecided → any_misread c notes_in ≡ false → IsPlanned (EachLine e) ls (each_moves c notes_in)
  each-planned f few_bytes h k =
      let after = classed_lines (text_after text (EachLine e)) in
      let rs = spans_of text before (EachLine e) in
      let spans_are : spans text (EachLine e) ≡ Ok rs = unrefused text (EachLine e) (decided h false k) in
      let K = each_line-keeps e text rs spans_are in
      let own : map (old_line c) ms ≡ located_lines before = olds ms ∙ ap located_lines whole in
      let old_bytes : size_of (map (old_line c) ms) ≤ max_text = subst (λ (z : List LocatedLine). size_of z ≤ max_text) (f ∙ sym own) few_bytes in
      let C : CanEachChange c start ms = lines-turn c start ms after K.in_place in
      let become = lines-become c start ms after K.in_place in
      let new_bytes : size_of (changed_where c (is_each_changed c) start ms) ≤ max_text = subst (λ (z : List LocatedLine). size_of z ≤ max_text) (sym become) (after-fits text (EachLine e) rs after spans_are refl) in
      let one = is_exchanged_in c turn.NoLonger in
      let two = is_exchanged_in c turn.Longer in
      let all = is_each_changed c in
      let A = first_turn (old_line c) one two all (new_line c) start ms in
      let B = second_turn (old_line c) one two all (new_line c) start ms in
      let first = turn-exchanges c turn.NoLonger one (λ m z. z) 0 start ms marked-classed in
      let second = turn-exchanges c turn.Longer all (λ m z. (and_parts (is_each_changed c m) (longer c m) z).0) 0 start ms marked-classed in
      let moves : A ++ B ≡ each_moves c notes_in = ap (λ z. z ++ B) first ∙ ap (λ z. turn_moves turn.NoLonger c notes_in ++ z) second in
      let L : LeadTo (each_moves c notes_in) (located_lines before) (located_lines after) =
      subst (λ z. LeadTo z (located_lines before) (located_lines after)) moves
      (subst (LeadTo (A ++ B) (located_lines before)) become
      (subst (λ (z : List LocatedLine). LeadTo (A ++ B) z (changed_where c all start ms)) own (turns-lead (old_line c) one two all (new_line c) start ms C old_bytes new_bytes))) in
      let held : held_by (each_moves c notes_in) ≡ length (filter all ms) = ap held_by (sym moves) ∙ turns-held (old_line c) one two all (new_line c) start ms C in
      let taken : taken_by (each_moves c notes_in) ≡ length (filter all ms) = ap taken_by (sym moves) ∙ turns-taken (old_line c) one two all (new_line c) start ms C in
      lead-planned (EachLine e) ls rs (each_moves c notes_in) before after f spans_are refl refl L (omega (arith, held)) (omega (arith, taken))
    where
      olds : (ks : List MarkedLine) → map (old_line c) ks ≡ located_lines (unmarked ks)
      olds [] = refl
      olds (m ∷ ks) = ap (λ z. located_line m.line ∷ z) (olds ks)

  -- ---- what a call answers that makes the lines

  pub each-plans : (read_before read_after : ℕ) (r : Result (List Move) Refusal) → IsFaithful ls → size_of ls ≤ max_text → IsDecided → IfOk r (λ patch. patch ≡ each_moves c notes_in)
      → AreRead (length notes_in) (any_misread c notes_in) read_before read_after r → Plans (EachLine e) ls read_before read_after r
  each-plans m n (Ok patch) f few h k R = record {
    planned = subst (IsPlanned (EachLine e) ls) (sym k) (each-planned f few h R.told);
    refused = tt;
    counted = rw (sym each-costs) R.counted;
    few_read = omega (arith, each-costs, R.few_read);
    forward = R.forward;
  }
  each-plans m n (Err q) f few h k R = record {
    planned = tt;
    refused = told R.refused;
    counted = tt;
    few_read = omega (arith, each-costs, R.few_read);
    forward = R.forward;
  }
    where
      told : (q ≡ NoMemory) ⊎ ((q ≡ Misread) × (any_misread c notes_in ≡ true)) → (spans text (EachLine e) ≡ Err q) ⊎ ((q ≡ NoMemory) × IsUnrefused text (EachLine e))
      told (inl i) = inr (i, each-unrefused h)
      told (inr i) = inl (each-misread h i.1 ∙ ap Err (sym i.0))
