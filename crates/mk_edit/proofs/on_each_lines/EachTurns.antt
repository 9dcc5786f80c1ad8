-- The moves of an edit of several lines, by its notes, are exchanges of the lines that are changed; and each of these lines can be
-- exchanged where it stands.
use Rattle.std.proofs.Common.{◌≡◌, refl, sym, ap, ◌∙◌, subst, arith, ℕ, ◌+◌, Bool, true, false, not, List, [], ◌∷◌, length, map, filter}
use Rattle.std.specs.Prelude.{if◌then◌else◌, ◌&&◌, nat_lt}
use Rattle.std.proofs.lemmas.Bool.{and_parts, ltb-false, ltb-true, not-true}
use Rattle.mk_lines.specs.Cells.{Cell}
use Rattle.mk_class.specs.Classes.{Class}
use Rattle.mk_class.specs.ClassTable.{class_of}
use Rattle.mk_class.specs.ClassedLines.{ClassedLine}
use Rattle.mk_class.specs.Contexts.{Context, context_after}
use Rattle.mk_tree.specs.LineTexts.{line_in}
use Rattle.mk_tree.specs.LocatedLines.{LocatedLine, located_line, located_lines}
use Rattle.mk_tree.proofs.on_documents.LinesInText.{AreClassed, AreClassed-class, AreClassed-tail}
use Rattle.mk_edit_language.specs.EachLine.{EachChange, MarkedLine, each_bytes, is_each_changed}
use Rattle.mk_edit_language.specs.LinesInPlace.{AreLinesInPlace, IsEachInPlace}
use Rattle.mk_edit_language.proofs.on_each_line.EachLineSpans.{unmarked}
use Rattle.mk_patch.specs.Moves.{Exchange, IsPlain}
use Rattle.mk_patch.proofs.on_moves.ExchangeLemmas.{exchanges}
use Rattle.mk_patch.proofs.on_moves.TextLineLemmas.{plain-located}
use Rattle.mk_edit.specs.EachLinePatches.{is_of_turn, line_after, turn_moves}
use Rattle.mk_edit.specs.EachLineSurveys.{NotedLine}
use Rattle.mk_edit.specs.LineChangePlans.{meant_in}
use Rattle.mk_edit.specs.RenameTargetPatches.{before_moves}
use Rattle.mk_edit.specs.declared.rename_target_effect.Turn.{Turn}
use Rattle.mk_edit.specs.declared.rename_target_effect.Turn.TheVariants as turn
use Rattle.mk_edit.proofs.on_renaming.LinesAlong.{line_where}
use Rattle.mk_edit.proofs.on_renaming.PatchPlans.{ArePartedTests}
use Rattle.mk_edit.proofs.on_plans.TurnPlans.{CanEachTurn, CanTurn, lines_where}

-- ---- a line, and whether it is meant

abbrev pub marked_line : ClassedLine → Bool → MarkedLine
marked_line k b = record { line = k; is_meant = b }

module _ (c : EachChange) where
  -- a line that is changed is meant
  changed-meant : (m : MarkedLine) → is_each_changed c m ≡ true → m.is_meant ≡ true
  changed-meant m h = go m.is_meant h
    where
      go : (b : Bool) → is_each_changed c (marked_line m.line b) ≡ true → b ≡ true
      go true e = refl
      go false e = absurd (cc)

  -- it is that of its bytes in its context
  pub meant-again : (x : Context) (m : MarkedLine) → class_of x m.line.bytes ≡ m.line.class → is_each_changed c m ≡ true → meant_in x m.line.bytes ≡ m
  meant-again x m h e =
      ap (λ (k : Class Cell). marked_line (record { bytes = m.line.bytes; class = k }) true) h ∙ ap (marked_line m.line) (sym (changed-meant m e))

  -- ---- which lines, and what they become

  abbrev pub old_line : MarkedLine → LocatedLine
  old_line m = located_line m.line

  -- whether a line becomes longer
  abbrev pub longer : MarkedLine → Bool
  longer m = nat_lt (length m.line.bytes) (length (each_bytes c m))

  -- whether a line is exchanged in a turn
  abbrev pub is_exchanged_in : Turn → MarkedLine → Bool
  is_exchanged_in t m = is_each_changed c m && is_of_turn t (longer m)

  -- the line after the edit, in the place of a line that stands in this context
  abbrev pub new_line : Context → MarkedLine → LocatedLine
  new_line x m = located_line (line_in x (each_bytes c m))

  -- lines after the edit of those that pass a test
  abbrev pub changed_where : (test : MarkedLine → Bool) → Context → List MarkedLine → List LocatedLine
  changed_where p x ms = lines_where old_line (is_exchanged_in turn.NoLonger) (is_exchanged_in turn.Longer) (is_each_changed c) new_line p x ms

  abbrev pub CanEachChange : Context → List MarkedLine → Type 0
  CanEachChange x ms = CanEachTurn old_line (is_exchanged_in turn.NoLonger) (is_exchanged_in turn.Longer) (is_each_changed c) new_line x ms

  -- the note of a line
  abbrev pub note_of : (at : ℕ) → Context → MarkedLine → NotedLine
  note_of at x m = record { place = record { at = at; context = x }; line = old_line m; is_longer = longer m }

  -- the notes of the lines that are changed; the first line stands at this index and in this context
  abbrev pub notes_of : (at : ℕ) → Context → List MarkedLine → List NotedLine
  notes_of at x [] = []
  notes_of at x (m ∷ ms) =
      let below = notes_of (at + 1) (context_after x m.line.class) ms in
      if is_each_changed c m then note_of at x m ∷ below else below

  -- the moves of a turn are exchanges of the lines that pass its test
  pub turn-exchanges : (t : Turn) (p : MarkedLine → Bool) → ((m : MarkedLine) → is_exchanged_in t m ≡ true → p m ≡ true) → (at : ℕ) (x : Context) (ms : List MarkedLine) → AreClassed x (unmarked ms)
      → exchanges at (map (is_exchanged_in t) ms) (changed_where p x ms) ≡ turn_moves t c (notes_of at x ms)
  turn-exchanges t p f at x [] A = refl
  turn-exchanges t p f at x (m ∷ ms) A =
      go (is_each_changed c m) (is_of_turn t (longer m)) refl refl (f m) (turn-exchanges t p f (at + 1) (context_after x m.line.class) ms (AreClassed-tail x m.line (unmarked ms) A))
    where
      below : List NotedLine
      below = notes_of (at + 1) (context_after x m.line.class) ms

      rest : List LocatedLine
      rest = changed_where p (context_after x m.line.class) ms

      same : is_each_changed c m ≡ true → new_line x m ≡ line_after c (note_of at x m)
      same e = ap (λ z. located_line (line_in x (each_bytes c z))) (sym (meant-again x m (AreClassed-class x m.line (unmarked ms) A) e))

      go : (b k : Bool) → is_each_changed c m ≡ b → is_of_turn t (longer m) ≡ k → (b && k ≡ true → p m ≡ true) → exchanges (at + 1) (map (is_exchanged_in t) ms) rest ≡ turn_moves t c below
          → exchanges at ((b && k) ∷ map (is_exchanged_in t) ms) (line_where (p m) (new_line x m) (old_line m) ∷ rest) ≡ turn_moves t c (if b then note_of at x m ∷ below else below)
      go false k q e h i = i
      go true true q e h i =
          ap (λ z. Exchange at (line_where z (new_line x m) (old_line m)) ∷ exchanges (at + 1) (map (is_exchanged_in t) ms) rest) (h refl)
          ∙ (ap (λ z. Exchange at (new_line x m) ∷ z) i
          ∙ (ap (λ z. Exchange at z ∷ turn_moves t c below) (same q) ∙ ap (λ b. before_moves b (Exchange at (line_after c (note_of at x m))) (turn_moves t c below)) (sym e)))
      go true false q e h i = i ∙ ap (λ b. before_moves b (Exchange at (line_after c (note_of at x m))) (turn_moves t c below)) (sym e)

  -- how many lines are noted
  pub notes-number : (at : ℕ) (x : Context) (ms : List MarkedLine) → length (notes_of at x ms) ≡ length (filter (is_each_changed c) ms)
  notes-number at x [] = refl
  notes-number at x (m ∷ ms) = go (is_each_changed c m) (notes-number (at + 1) (context_after x m.line.class) ms)
    where
      below : List NotedLine
      below = notes_of (at + 1) (context_after x m.line.class) ms

      go : (b : Bool) → length below ≡ length (filter (is_each_changed c) ms)
          → length (if b then note_of at x m ∷ below else below) ≡ length (if b then m ∷ filter (is_each_changed c) ms else filter (is_each_changed c) ms)
      go true h = omega (arith, h)
      go false h = h

  -- ---- the lines of a text

  -- a line that is changed becomes the line of the law
  new-line : (x : Context) (m : MarkedLine) (l : ClassedLine) → IsEachInPlace c x m l → new_line x m ≡ located_line l
  new-line x m l R =
      ap (λ b. located_line (line_in x b)) (sym R.new_line) ∙ ap (λ (k : Class Cell). located_line (record { bytes = l.bytes; class = k })) R.in_place.class

  line-becomes : (x : Context) (m : MarkedLine) (l : ClassedLine) → IsEachInPlace c x m l → line_where (is_each_changed c m) (new_line x m) (old_line m) ≡ located_line l
  line-becomes x m l R = go (is_each_changed c m) refl
    where
      go : (b : Bool) → is_each_changed c m ≡ b → line_where b (new_line x m) (old_line m) ≡ located_line l
      go true e = new-line x m l R
      go false e = ap located_line (sym (R.in_place.same e))

  -- the lines become those of the law
  pub lines-become : (x : Context) (ms : List MarkedLine) (ls : List ClassedLine) → AreLinesInPlace (λ (m : MarkedLine). m.line) (IsEachInPlace c) x ms ls → changed_where (is_each_changed c) x ms ≡ located_lines ls
  lines-become x [] [] R = refl
  lines-become x [] (l ∷ ls) R = absurd R
  lines-become x (m ∷ ms) [] R = absurd R
  lines-become x (m ∷ ms) (l ∷ ls) R =
      ap (λ z. z ∷ changed_where (is_each_changed c) (context_after x m.line.class) ms) (line-becomes x m l R.0)
      ∙ ap (λ z. located_line l ∷ z) (lines-become (context_after x m.line.class) ms ls R.1)

  -- a line that is changed can be exchanged in its turn
  line-plain : (x : Context) (m : MarkedLine) (l : ClassedLine) → is_each_changed c m ≡ true → IsEachInPlace c x m l → IsPlain (old_line m) × IsPlain (new_line x m)
  line-plain x m l e R =
      let P = R.in_place.plain e in
      (plain-located m.line (ap not P.0), subst IsPlain (sym (new-line x m l R)) (plain-located l (ap not P.1)))

  parts : (m : MarkedLine) → ArePartedTests (is_exchanged_in turn.NoLonger m) (is_exchanged_in turn.Longer m) (is_each_changed c m)
  parts m = go (is_each_changed c m) (longer m)
    where
      go : (b k : Bool) → ArePartedTests (b && not k) (b && k) b
      go true true = record { both = λ e. (refl, refl); one = λ e. absurd (cc) }
      go true false = record { both = λ e. absurd (cc); one = λ e. refl }
      go false k = record { both = λ e. absurd (cc); one = λ e. refl }

  line-turns : (x : Context) (m : MarkedLine) (l : ClassedLine) → IsEachInPlace c x m l
      → CanTurn old_line (is_exchanged_in turn.NoLonger) (is_exchanged_in turn.Longer) (is_each_changed c) new_line x m
  line-turns x m l R = record {
    parted = parts m;
    plain = λ e. line-plain x m l e R;
    shorter = λ e. ltb-false (length m.line.bytes) (length (each_bytes c m)) (not-true (longer m) (and_parts (is_each_changed c m) (not (longer m)) e).1);
    longer = λ e.
        let z = ltb-true (length m.line.bytes) (length (each_bytes c m)) (and_parts (is_each_changed c m) (longer m) e).1 in
        omega (arith, z);
    whole_first = λ e. (and_parts (is_each_changed c m) (not (longer m)) e).0;
  }

  pub lines-turn : (x : Context) (ms : List MarkedLine) (ls : List ClassedLine) → AreLinesInPlace (λ (m : MarkedLine). m.line) (IsEachInPlace c) x ms ls → CanEachChange x ms
  lines-turn x [] [] R = tt
  lines-turn x [] (l ∷ ls) R = absurd R
  lines-turn x (m ∷ ms) [] R = absurd R
  lines-turn x (m ∷ ms) (l ∷ ls) R = (line-turns x m l R.0, lines-turn (context_after x m.line.class) ms ls R.1)
