-- The moves of a change of values, by its notes, are exchanges of the lines that are changed; and each of these lines can be
-- exchanged where it stands.
use Rattle.std.proofs.Common.{◌≡◌, refl, sym, ap, ◌∙◌, subst, arith, ℕ, ◌+◌, ◌≤◌, Bool, true, false, not, List, [], ◌∷◌, length, map, filter, cond, Some}
use Rattle.std.specs.Prelude.{if◌then◌else◌, ◌&&◌}
use Rattle.std.specs.List.{list_any}
use Rattle.std.proofs.lemmas.Bool.{and_parts, not-true}
use Rattle.mk_lines.specs.Limits.{max_text}
use Rattle.mk_lines.specs.LogicalLines.{logical_lines}
use Rattle.mk_lines.specs.Pieces.{replaced}
use Rattle.mk_lines.proofs.on_lists.BoolLemmas.{or-left_false, or-right_false}
use Rattle.mk_class.specs.Classes.{Class}
use Rattle.mk_class.specs.ClassTable.{class_of}
use Rattle.mk_class.specs.ClassedLines.{ClassedLine}
use Rattle.mk_class.specs.Contexts.{Context, context_after, context_after_located}
use Rattle.mk_class.specs.RecipePrefix.{is_prefix_name}
use Rattle.mk_lines.specs.Cells.{Cell}
use Rattle.mk_tree.specs.LineTexts.{line_in}
use Rattle.mk_tree.specs.LocatedLines.{LocatedLine, located_line, located_lines}
use Rattle.mk_tree.proofs.AdmissionLemmas.{defines_after-few}
use Rattle.mk_tree.proofs.on_documents.LinesInText.{AreClassed, AreClassed-class, AreClassed-tail}
use Rattle.mk_edit_language.specs.LinesInPlace.{IsLineChanged, AreInPlace}
use Rattle.mk_edit_language.specs.Edits.{ValueChange}
use Rattle.mk_edit_language.specs.LineCauses.{is_open_to}
use Rattle.mk_edit_language.specs.ValueChanges.{change_spans, is_changed, assignment_spans}
use Rattle.mk_patch.specs.Moves.{Exchange, IsPlain}
use Rattle.mk_patch.proofs.on_moves.ExchangeLemmas.{exchanges}
use Rattle.mk_patch.proofs.on_moves.TextLineLemmas.{plain-located}
use Rattle.mk_edit.specs.ChangeValuesPatches.{AreChangeable, is_turn_for, turn_moves}
use Rattle.mk_edit.specs.ChangeValuesSurveys.{MeantLine, meant_places_from}
use Rattle.mk_edit.specs.RenameTargetPatches.{before_moves}
use Rattle.mk_edit.specs.ValueChangeLines.{IsOwnLine, bytes_changed, is_changed_located, is_longer}
use Rattle.mk_edit.specs.declared.rename_target_effect.Turn.{Turn}
use Rattle.mk_edit.specs.declared.rename_target_effect.Turn.TheVariants as turn
use Rattle.mk_edit.proofs.on_renaming.LinesAlong.{line_where}
use Rattle.mk_edit.proofs.on_renaming.PatchPlans.{ArePartedTests}
use Rattle.mk_edit.proofs.on_plans.TurnPlans.{CanEachTurn, CanTurn, itself, lines_where}
use Rattle.mk_edit.proofs.on_value_changes.ChangedBytes.{longer, no-longer}
use Rattle.mk_edit.proofs.on_value_changes.LinesTold.{changed-assigns, changed-told, named-line}

-- ---- which lines, and what they become

module _ (n : List ℕ) (c : ValueChange) where
  -- whether a line is exchanged in a turn
  abbrev pub is_exchanged_in : Turn → LocatedLine → Bool
  is_exchanged_in t l = is_changed_located n c l && is_turn_for t c l

  -- the line after the change, in the place of a line that stands in this context
  abbrev pub new_line : Context → LocatedLine → LocatedLine
  new_line x l = located_line (line_in x (bytes_changed c x l))

  -- lines after the change of those that pass a test
  abbrev pub changed_where : (test : LocatedLine → Bool) → Context → List LocatedLine → List LocatedLine
  changed_where p x ls = lines_where itself (is_exchanged_in turn.NoLonger) (is_exchanged_in turn.Longer) (is_changed_located n c) new_line p x ls

  abbrev pub CanEachChange : Context → List LocatedLine → Type 0
  CanEachChange x ls = CanEachTurn itself (is_exchanged_in turn.NoLonger) (is_exchanged_in turn.Longer) (is_changed_located n c) new_line x ls

  -- the moves of a turn are exchanges of the lines that pass its test
  pub turn-exchanges : (t : Turn) (p : LocatedLine → Bool) → ((l : LocatedLine) → is_exchanged_in t l ≡ true → p l ≡ true) → (at : ℕ) (x : Context) (ls : List LocatedLine)
      → exchanges at (map (is_exchanged_in t) ls) (changed_where p x ls) ≡ turn_moves t c (meant_places_from n c at x ls)
  turn-exchanges t p f at x [] = refl
  turn-exchanges t p f at x (l ∷ ls) = go (is_changed_located n c l) (is_turn_for t c l) refl (f l) (turn-exchanges t p f (at + 1) (context_after_located x l.class) ls)
    where
      below : List MeantLine
      below = meant_places_from n c (at + 1) (context_after_located x l.class) ls

      rest : List LocatedLine
      rest = changed_where p (context_after_located x l.class) ls

      here : MeantLine
      here = record { place = record { at = at; context = x }; line = l }

      go : (b k : Bool) → is_turn_for t c l ≡ k → (b && k ≡ true → p l ≡ true) → exchanges (at + 1) (map (is_exchanged_in t) ls) rest ≡ turn_moves t c below
          → exchanges at ((b && k) ∷ map (is_exchanged_in t) ls) (line_where (p l) (new_line x l) l ∷ rest) ≡ turn_moves t c (if b then here ∷ below else below)
      go false k e h i = i
      go true true e h i =
          ap (λ z. Exchange at (line_where z (new_line x l) l) ∷ exchanges (at + 1) (map (is_exchanged_in t) ls) rest) (h refl)
          ∙ (ap (λ z. Exchange at (new_line x l) ∷ z) i ∙ ap (λ b. before_moves b (Exchange at (new_line x l)) (turn_moves t c below)) (sym e))
      go true false e h i = i ∙ ap (λ b. before_moves b (Exchange at (new_line x l)) (turn_moves t c below)) (sym e)

  -- how many lines are noted
  pub meant-number : (at : ℕ) (x : Context) (ls : List LocatedLine) → length (meant_places_from n c at x ls) ≡ length (filter (is_changed_located n c) ls)
  meant-number at x [] = refl
  meant-number at x (l ∷ ls) = go (is_changed_located n c l) (meant-number (at + 1) (context_after_located x l.class) ls)
    where
      below : List MeantLine
      below = meant_places_from n c (at + 1) (context_after_located x l.class) ls

      go : (b : Bool) → length below ≡ length (filter (is_changed_located n c) ls)
          → length (if b then record { place = record { at = at; context = x }; line = l } ∷ below else below) ≡ length (if b then l ∷ filter (is_changed_located n c) ls else filter (is_changed_located n c) ls)
      go true h = omega (arith, h)
      go false h = h

  -- ---- the lines of a text

  -- what is known of each line of an accepted change
  module _ (f : is_prefix_name n ≡ false) where
    -- a line that is changed
    own-line : (x : Context) (k : ClassedLine) → class_of x k.bytes ≡ k.class → is_changed n c k ≡ true → (is_changed n c k && is_open_to c (Some k.class)) ≡ false → IsOwnLine c x (located_line k)
    own-line x k h e o =
        let N = named-line x n k h (changed-assigns n c k e) f in
        record {
          assigned = N.assigned;
          here = N.here;
          class_is = N.located;
          not_open = ap (λ (q : Class Cell). is_open_to c (Some q)) (sym N.class_is) ∙ (ap (λ b. b && is_open_to c (Some k.class)) (sym e) ∙ o);
        }

    -- it becomes the line of the law
    new-is : (x : Context) (k m : ClassedLine) → class_of x k.bytes ≡ k.class → is_changed n c k ≡ true → IsLineChanged n c x k m → bytes_changed c x (located_line k) ≡ m.bytes
    new-is x k m h e R =
        ap (λ (q : Class Cell). replaced 0 k.bytes (assignment_spans (change_spans c) 0 q)) h
        ∙ (ap (λ b. replaced 0 k.bytes (cond b (assignment_spans (change_spans c) 0 k.class) [])) (sym e) ∙ sym R.new_line)

    new-line : (x : Context) (k m : ClassedLine) → class_of x k.bytes ≡ k.class → is_changed n c k ≡ true → IsLineChanged n c x k m → new_line x (located_line k) ≡ located_line m
    new-line x k m h e R =
        ap (λ b. located_line (line_in x b)) (new-is x k m h e R) ∙ ap (λ (q : Class Cell). located_line (record { bytes = m.bytes; class = q })) R.in_place.class

    line-becomes : (x : Context) (k m : ClassedLine) → class_of x k.bytes ≡ k.class → IsLineChanged n c x k m → line_where (is_changed_located n c (located_line k)) (new_line x (located_line k)) (located_line k) ≡ located_line m
    line-becomes x k m h R = ap (λ b. line_where b (new_line x (located_line k)) (located_line k)) (changed-told n c f x k h) ∙ go (is_changed n c k) refl
      where
        go : (b : Bool) → is_changed n c k ≡ b → line_where b (new_line x (located_line k)) (located_line k) ≡ located_line m
        go true e = new-line x k m h e R
        go false e = ap located_line (sym (R.in_place.same e))

    -- the lines become those of the law
    pub lines-become : (x : Context) (ks ms : List ClassedLine) → AreClassed x ks → AreInPlace (IsLineChanged n c) x ks ms → changed_where (is_changed_located n c) x (located_lines ks) ≡ located_lines ms
    lines-become x [] [] h R = refl
    lines-become x [] (m ∷ ms) h R = absurd R
    lines-become x (k ∷ ks) [] h R = absurd R
    lines-become x (k ∷ ks) (m ∷ ms) h R =
        ap (λ z. z ∷ changed_where (is_changed_located n c) (context_after x k.class) (located_lines ks)) (line-becomes x k m (AreClassed-class x k ks h) R.0)
        ∙ ap (λ z. located_line m ∷ z) (lines-become (context_after x k.class) ks ms (AreClassed-tail x k ks h) R.1)

    -- a line that is changed can be exchanged in its turn
    line-plain : (x : Context) (k m : ClassedLine) → class_of x k.bytes ≡ k.class → is_changed n c k ≡ true → IsLineChanged n c x k m → IsPlain (located_line k) × IsPlain (new_line x (located_line k))
    line-plain x k m h e R =
        let P = R.in_place.plain e in
        (plain-located k (ap not P.0), subst IsPlain (sym (new-line x k m h e R)) (plain-located m (ap not P.1)))

    parts : (l : LocatedLine) → ArePartedTests (is_exchanged_in turn.NoLonger l) (is_exchanged_in turn.Longer l) (is_changed_located n c l)
    parts l = go (is_changed_located n c l) (is_longer c l)
      where
        go : (b k : Bool) → ArePartedTests (b && not k) (b && k) b
        go true true = record { both = λ e. (refl, refl); one = λ e. absurd (cc) }
        go true false = record { both = λ e. absurd (cc); one = λ e. refl }
        go false k = record { both = λ e. absurd (cc); one = λ e. refl }

    line-turns : (x : Context) (k m : ClassedLine) → class_of x k.bytes ≡ k.class → (is_changed n c k && is_open_to c (Some k.class)) ≡ false → IsLineChanged n c x k m
        → CanTurn itself (is_exchanged_in turn.NoLonger) (is_exchanged_in turn.Longer) (is_changed_located n c) new_line x (located_line k)
    line-turns x k m h o R =
        let l = located_line k in
        let told = changed-told n c f x k h in
        record {
          parted = parts l;
          plain = λ e. line-plain x k m h (sym told ∙ e) R;
          shorter = λ e.
              let p = and_parts (is_changed_located n c l) (not (is_longer c l)) e in
              no-longer c x l (own-line x k h (sym told ∙ p.0) o) (not-true (is_longer c l) p.1);
          longer = λ e.
              let p = and_parts (is_changed_located n c l) (is_longer c l) e in
              longer c x l (own-line x k h (sym told ∙ p.0) o) p.1;
          whole_first = λ e. (and_parts (is_changed_located n c l) (not (is_longer c l)) e).0;
        }

    pub lines-turn : (x : Context) (ks ms : List ClassedLine) → AreClassed x ks → list_any (λ l. is_changed n c l && is_open_to c (Some l.class)) ks ≡ false → AreInPlace (IsLineChanged n c) x ks ms → CanEachChange x (located_lines ks)
    lines-turn x [] [] h o R = tt
    lines-turn x [] (m ∷ ms) h o R = absurd R
    lines-turn x (k ∷ ks) [] h o R = absurd R
    lines-turn x (k ∷ ks) (m ∷ ms) h o R =
        let here = is_changed n c k && is_open_to c (Some k.class) in
        let below = list_any (λ l. is_changed n c l && is_open_to c (Some l.class)) ks in
        (line-turns x k m (AreClassed-class x k ks h) (or-left_false here below o) R.0, lines-turn (context_after x k.class) ks ms (AreClassed-tail x k ks h) (or-right_false here below o) R.1)

    -- and each line that is noted can be changed
    pub lines-changeable : (at : ℕ) (x : Context) (ks ms : List ClassedLine) → AreClassed x ks → list_any (λ l. is_changed n c l && is_open_to c (Some l.class)) ks ≡ false → AreInPlace (IsLineChanged n c) x ks ms → x.defines + length ks ≤ max_text
        → AreChangeable c (meant_places_from n c at x (located_lines ks))
    lines-changeable at x [] [] h o R low = tt
    lines-changeable at x [] (m ∷ ms) h o R low = absurd R
    lines-changeable at x (k ∷ ks) [] h o R low = absurd R
    lines-changeable at x (k ∷ ks) (m ∷ ms) h o R low =
        let here = is_changed n c k && is_open_to c (Some k.class) in
        let below = list_any (λ l. is_changed n c l && is_open_to c (Some l.class)) ks in
        let rest = lines-changeable (at + 1) (context_after x k.class) ks ms (AreClassed-tail x k ks h) (or-right_false here below o) R.1 (omega (arith, low, defines_after-few x.defines k.class)) in
        go (is_changed_located n c (located_line k)) refl (AreClassed-class x k ks h) (or-left_false here below o) R.0 rest
      where
        go : (b : Bool) → is_changed_located n c (located_line k) ≡ b → class_of x k.bytes ≡ k.class → (is_changed n c k && is_open_to c (Some k.class)) ≡ false → IsLineChanged n c x k m
            → AreChangeable c (meant_places_from n c (at + 1) (context_after x k.class) (located_lines ks))
            → AreChangeable c (if b then record { place = record { at = at; context = x }; line = located_line k } ∷ meant_places_from n c (at + 1) (context_after x k.class) (located_lines ks)
            else meant_places_from n c (at + 1) (context_after x k.class) (located_lines ks))
        go false e i o R rest = rest
        go true e i o R rest =
            let t = sym (changed-told n c f x k i) ∙ e in
            let is = new-is x k m i t R in (
              record {
                own = own-line x k i t o;
                one = subst (λ z. logical_lines z ≡ z ∷ []) (sym is) R.in_place.one_line;
                plain = (line-plain x k m i t R).1;
                defines = omega (arith, low);
              },
              rest,
            )
