-- What the walk over a document notes of its lines is what is to be noted of the marked lines; and each line that is noted can be
-- changed where it stands.
use Rattle.std.proofs.Common.{◌≡◌, refl, sym, ap, ◌∙◌, subst, arith, ℕ, suc, ◌+◌, ◌≤◌, Bool, true, false, List, [], ◌∷◌, length, map}
use Rattle.std.specs.Prelude.{IfOk, Result, if◌then◌else◌}
use Rattle.mk_lines.specs.Limits.{max_text}
use Rattle.mk_lines.specs.Cells.{Cell}
use Rattle.mk_class.specs.Classes.{Class}
use Rattle.mk_class.specs.ClassTable.{class_of}
use Rattle.mk_class.specs.ClassedLines.{classed_lines}
use Rattle.mk_class.specs.Contexts.{Context, start, context_after}
use Rattle.mk_tree.specs.Documents.{IsFaithful}
use Rattle.mk_tree.specs.LocatedLines.{LocatedLine, located_line, located_lines, located_text, size_of}
use Rattle.mk_tree.proofs.AdmissionLemmas.{defines_after-few}
use Rattle.mk_tree.proofs.on_documents.LinesInText.{AreClassed, AreClassed-class, AreClassed-tail}
use Rattle.mk_edit_language.specs.EachLine.{EachChange, MarkedLine, each_change, is_each_changed, lines_meant, marked}
use Rattle.mk_edit_language.specs.Edits.{EachEdit, EachLine}
use Rattle.mk_edit_language.specs.declared.refusal.Refusal.{Refusal}
use Rattle.mk_edit_language.proofs.on_each_line.EachLineSpans.{unmarked, unmarked-marked_by}
use Rattle.mk_edit_parts.specs.EachLineWalks.{SeenLine, is_meant_located, located_marked, no_reach, reach_after, seen_from, seen_lines}
use Rattle.mk_edit_parts.specs.declared.each_line.Reach.{Reach}
use Rattle.mk_edit_parts.proofs.on_each_line.LinesSeen.{lines-seen}
use Rattle.mk_patch.specs.Moves.{Move}
use Rattle.mk_edit.specs.EachLinePatches.{AreChangeable, IsChangeable, any_misread, each_moves}
use Rattle.mk_edit.specs.EachLineSurveys.{IsOfLines, NotedLine, no_places, noted_from, noted_line, noted_lines, places_counted, places_meant}
use Rattle.mk_edit.specs.LineChangePlans.{AreRead}
use Rattle.mk_edit.specs.Planned.{Plans}
use Rattle.mk_edit.proofs.on_each_lines.EachTurns.{marked_line, meant-again, note_of, notes_of}
use Rattle.mk_edit.proofs.on_each_lines.LinesCounted.{IsToldBy, none-told, own-told}
use Rattle.mk_edit.proofs.on_each_lines.LinesOwned.{meant-own}
use Rattle.mk_edit.proofs.on_each_lines.EachPlans.{IsDecided, each-plans, marked-classed, notes_in}

module _ (e : EachEdit) (o : IsOfLines e) where
  abbrev c : EachChange
  c = each_change e

  -- a walk that has come to these marked lines sees which of them are meant
  abbrev pub AreSeen : Reach → List MarkedLine → Type 0
  AreSeen r ms = seen_from e r (located_lines (unmarked ms)) ≡ map located_marked ms

  -- the first of them, and those after it
  pub seen-first : (r : Reach) (m : MarkedLine) (ms : List MarkedLine) → AreSeen r (m ∷ ms) → is_meant_located e r (located_line m.line) ≡ m.is_meant
  seen-first r m ms s = ap (first_meant m.is_meant) s
    where
      first_meant : Bool → List SeenLine → Bool
      first_meant b [] = b
      first_meant b (l ∷ ls) = l.is_meant

  pub seen-rest : (r : Reach) (m : MarkedLine) (ms : List MarkedLine) → AreSeen r (m ∷ ms) → AreSeen (reach_after e (located_line m.line) r) ms
  seen-rest r m ms s = ap rest s
    where
      rest : List SeenLine → List SeenLine
      rest [] = []
      rest (l ∷ ls) = ls

  -- what is counted of a line
  pub line-told : (r : Reach) (x : Context) (m : MarkedLine) → class_of x m.line.bytes ≡ m.line.class → is_meant_located e r (located_line m.line) ≡ m.is_meant → IsToldBy c (places_meant e r (located_line m.line)) m
  line-told r x m h s = subst (λ b. IsToldBy c (if b then places_counted c (located_line m.line) else no_places) m) (sym s) (go m.is_meant s)
    where
      go : (b : Bool) → is_meant_located e r (located_line m.line) ≡ b → IsToldBy c (if b then places_counted c (located_line m.line) else no_places) (marked_line m.line b)
      go true i = own-told c x m.line h (meant-own e r x m.line h o i)
      go false i = none-told c x m.line h

  -- ---- the notes

  notes-told : (r : Reach) (at : ℕ) (x : Context) (ms : List MarkedLine) → AreClassed x (unmarked ms) → AreSeen r ms → noted_from e r at x (located_lines (unmarked ms)) ≡ notes_of c at x ms
  notes-told r at x [] A s = refl
  notes-told r at x (m ∷ ms) A s =
      let l = located_line m.line in
      let q = places_meant e r l in
      let next = reach_after e l r in
      let a = context_after x m.line.class in
      let T = line-told r x m (AreClassed-class x m.line (unmarked ms) A) (seen-first r m ms s) in
      let below = noted_from e next (at + 1) a (located_lines (unmarked ms)) in
      ap (λ b. if b then noted_line at x l q ∷ below else below) T.changed
      ∙ (ap (λ b. if is_each_changed c m then noted at x l b ∷ below else below) T.longer
      ∙ ap (λ z. if is_each_changed c m then note_of c at x m ∷ z else z) (notes-told next (at + 1) a ms (AreClassed-tail x m.line (unmarked ms) A) (seen-rest r m ms s)))
    where
      noted : ℕ → Context → LocatedLine → Bool → NotedLine
      noted i y l b = record { place = record { at = i; context = y }; line = l; is_longer = b }

  -- ---- they can be changed

  note-changeable : (r : Reach) (at : ℕ) (x : Context) (m : MarkedLine) → class_of x m.line.bytes ≡ m.line.class → is_meant_located e r (located_line m.line) ≡ m.is_meant → is_each_changed c m ≡ true
      → length m.line.bytes ≤ max_text → suc x.defines ≤ max_text → IsChangeable c (note_of c at x m)
  note-changeable r at x m h s k short low =
      let again = meant-again c x m h k in
      record {
        own = meant-own e r x m.line h o (s ∙ ap (λ (z : MarkedLine). z.is_meant) (sym again));
        classed = ap (λ (q : Class Cell). located_line (record { bytes = m.line.bytes; class = q })) (sym h);
        changed = ap (is_each_changed c) again ∙ k;
        short = short;
        defines = low;
      }

  notes-changeable : (r : Reach) (at : ℕ) (x : Context) (ms : List MarkedLine) → AreClassed x (unmarked ms) → AreSeen r ms → size_of (located_lines (unmarked ms)) ≤ max_text → x.defines + length ms ≤ max_text
      → AreChangeable c (notes_of c at x ms)
  notes-changeable r at x [] A s few low = tt
  notes-changeable r at x (m ∷ ms) A s few low =
      let next = reach_after e (located_line m.line) r in
      go (is_each_changed c m) refl
      (notes-changeable next (at + 1) (context_after x m.line.class) ms (AreClassed-tail x m.line (unmarked ms) A) (seen-rest r m ms s) (omega (arith, few)) (omega (arith, low, defines_after-few x.defines m.line.class)))
    where
      below : List NotedLine
      below = notes_of c (at + 1) (context_after x m.line.class) ms

      go : (b : Bool) → is_each_changed c m ≡ b → AreChangeable c below → AreChangeable c (if b then note_of c at x m ∷ below else below)
      go true k R = (note-changeable r at x m (AreClassed-class x m.line (unmarked ms) A) (seen-first r m ms s) k (omega (arith, few)) (omega (arith, low)), R)
      go false k R = R

  -- ---- the lines of a document

  module _ (ls : List LocatedLine) (f : IsFaithful ls) where
    abbrev ms : List MarkedLine
    ms = marked e (classed_lines (located_text ls))

    pub whole : ls ≡ located_lines (unmarked ms)
    whole = f ∙ ap located_lines (sym (unmarked-marked_by (lines_meant (classed_lines (located_text ls)) e) 0 (classed_lines (located_text ls))))

    pub all-seen : AreSeen no_reach ms
    all-seen = ap (seen_lines e) (sym whole) ∙ lines-seen e ls f

    -- what is noted of a document
    pub noted-told : noted_lines e ls ≡ notes_in e ls
    noted-told = ap (noted_lines e) whole ∙ notes-told no_reach 0 start ms (marked-classed e ls) all-seen

    pub noted-changeable : size_of ls ≤ max_text → length ls ≤ size_of ls → AreChangeable c (noted_lines e ls)
    noted-changeable few some =
        let own : size_of (located_lines (unmarked ms)) ≤ max_text = subst (λ (z : List LocatedLine). size_of z ≤ max_text) whole few in
        let low : start.defines + length ms ≤ max_text = omega (arith, few, some, ap length whole, lines-number ms) in
        subst (AreChangeable c) (sym noted-told) (notes-changeable no_reach 0 start ms (marked-classed e ls) all-seen own low)
      where
        lines-number : (ks : List MarkedLine) → length (located_lines (unmarked ks)) ≡ length ks
        lines-number [] = refl
        lines-number (k ∷ ks) = omega (arith, lines-number ks)

-- what a call answers that makes the lines of these notes
pub notes-plan : (e : EachEdit) (ls : List LocatedLine) (k : EachChange) (ns : List NotedLine) (n read_before read_after : ℕ) (r : Result (List Move) Refusal) → IsFaithful ls → size_of ls ≤ max_text → IsDecided e ls
    → k ≡ each_change e → ns ≡ notes_in e ls → n ≡ length ns → IfOk r (λ patch. patch ≡ each_moves k ns) → AreRead n (any_misread k ns) read_before read_after r → Plans (EachLine e) ls read_before read_after r
notes-plan e ls k ns n m i r f few d change notes number moves read =
    each-plans e ls m i r f few d (subst (λ z. IfOk r (λ patch. patch ≡ each_moves (each_change e) z)) notes (subst (λ z. IfOk r (λ patch. patch ≡ each_moves z ns)) change moves))
    (subst (λ z. AreRead (length z) (any_misread (each_change e) z) m i r) notes (subst (λ z. AreRead (length ns) (any_misread z ns) m i r) change (subst (λ z. AreRead z (any_misread k ns) m i r) number read)))
