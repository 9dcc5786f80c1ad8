-- A change of an assignment's line that is checked by reading: its causes, by what the code finds in the line, and its plan.
use Rattle.std.proofs.Common.{◌≡◌, refl, sym, ap, ◌∙◌, subst, arith, ℕ, zero, suc, ◌+◌, ◌*◌, ◌<◌, ◌≤◌, Bool, true, false, not, ◌&&◌, List, [], ◌∷◌, length, Option, Some, None, option_map, inl, inr}
use Rattle.std.specs.List.{list_any}
use Rattle.std.specs.Prelude.{◌==◌, nat_lt, ◌⊎◌, if◌then◌else◌, slice_get, Ok, Err, Result, IfOk, OnOk, IsErrAnd, IsOkUnless}
use Rattle.std.proofs.lemmas.Grind.{common_steps}
use Rattle.std.proofs.lemmas.List.{append-nil, length-map}
use Rattle.mk_lines.specs.Limits.{max_text}
use Rattle.mk_lines.specs.Cells.{Cell, joined_byte, line_cells}
use Rattle.mk_lines.specs.Pieces.{replaced}
use Rattle.mk_lines.specs.declared.split.Span.{Span}
use Rattle.mk_lines.specs.Ranges.{raw_range}
use Rattle.mk_class.specs.Arguments.{is_clean, is_name}
use Rattle.mk_class.specs.ListTests.{is_empty}
use Rattle.mk_class.specs.Texts.{unit_text}
use Rattle.mk_class.specs.Assignments.{Assignment}
use Rattle.mk_class.specs.Classes.{Class}
use Rattle.mk_class.specs.Classes.Class.{Assign}
use Rattle.mk_class.specs.ClassTable.{class_of}
use Rattle.mk_class.specs.Contexts.{Context}
use Rattle.mk_class.specs.LocatedClasses.{located_class}
use Rattle.mk_class.specs.RecipePrefix.{is_prefix_name}
use Rattle.mk_class.specs.ClassedLines.{ClassedLine, classed_lines}
use Rattle.mk_class.specs.declared.assignment.Assignment as offsets
use Rattle.mk_tree.specs.Documents.{IsFaithful, text_of, context_of}
use Rattle.mk_tree.specs.LineTexts.{StandingLine, line_in}
use Rattle.mk_tree.specs.LocatedLines.{LocatedLine, located_line, located_text, size_of, text_of_line}
use Rattle.mk_tree.proofs.on_changes.Sizes.{size_of-text}
use Rattle.mk_edit_language.specs.Addresses.{Variable}
use Rattle.mk_edit_language.specs.ArgumentCauses.{Tested, line_change_tests, bad_argument}
use Rattle.mk_edit_language.specs.Causes.{where_holds}
use Rattle.mk_edit_language.specs.Edits.{LineChange, Prepend, ReplaceWord, InsertWord, Substitute, SetOperator, Edit, ChangeLine}
use Rattle.mk_edit_language.specs.EachLine.{InAssignment, each_bytes}
use Rattle.mk_edit_language.specs.EditSpans.{spans_of, where_found}
use Rattle.mk_edit_language.specs.KeptLines.{respanned_bytes}
use Rattle.mk_edit_language.specs.Lengths.{bytes_taken, bytes_put}
use Rattle.mk_edit_language.specs.LineCauses.{misread, is_found_misread, too_long}
use Rattle.mk_edit_language.specs.LineChanges.{line_pieces, line_change_spans, is_line_changed, line_after, is_misread}
use Rattle.mk_edit_language.specs.Refusals.{causes, first_cause, spans}
use Rattle.mk_edit_language.specs.RuleCauses.{absent, already, class_found, not_inserted}
use Rattle.mk_edit_language.specs.Stretches.{this_line}
use Rattle.mk_edit_language.specs.ValueChanges.{assignment_passes, assignment_spans, value_spans}
use Rattle.mk_edit_language.specs.WordPieces.{is_replaced}
use Rattle.mk_edit_language.specs.declared.refusal.Field.TheVariants as field
use Rattle.mk_edit_language.specs.declared.refusal.Refusal.{Refusal}
use Rattle.mk_edit_language.specs.declared.refusal.Refusal.TheVariants.{Absent, NoMemory, TooLong, Misread}
use Rattle.mk_edit_language.proofs.on_edits.Accepted.{where_holds-none, first-passed}
use Rattle.mk_edit_language.proofs.on_values.FoundAssignments.{assignment-found}
use Rattle.mk_edit_language.proofs.on_values.SetValueLemmas.{not_prefix}
use Rattle.mk_edit_parts.specs.Found.{IsAddressed, IsFoundAt, IsPlaceOf}
use Rattle.mk_edit_parts.specs.LineChangePlaces.{change_places, new_text, raw_ranges, separator_bytes, separator_place}
use Rattle.mk_edit_parts.specs.RenamedRanges.{bytes_in}
use Rattle.mk_edit_parts.specs.SeenAssignments.{IsAssignmentAt}
use Rattle.mk_edit_parts.specs.declared.seek.Found.{Found}
use Rattle.mk_edit_parts.proofs.CauseLemmas.{refused, unrefused}
use Rattle.mk_edit.specs.LineChangePlans.{IsLineChange, IsAssignmentIn, IsAssigning, IsSought, first_of_words, is_changed_misread, meant_in, not_inserted_in}
use Rattle.mk_patch.specs.Moves.{Move, Exchange}
use Rattle.mk_tree.specs.Counting.{AreCounted}
use Rattle.mk_edit.specs.PlannedMoves.{replacing_moves}
use Rattle.mk_edit_language.specs.Costs.{cost}
use Rattle.mk_edit.specs.Planned.{IsUnrefused, IsRefusal, Plans, ReadsAnew}
use Rattle.mk_edit.specs.ValueChangeLines.{value_text_located}
use Rattle.mk_edit.proofs.on_plans.CausePlans.{AreBalanced, addressed-all, first-before, long-by}
use Rattle.mk_edit.proofs.on_plans.LinePlans.{IsReplaced, line-replaced}
use Rattle.mk_edit.proofs.on_renaming.CausesOfRenameTarget.{after-cause}
use Rattle.mk_edit_parts.proofs.on_renaming.WrittenLemmas.{apart-bytes, replaced-some}
use Rattle.mk_edit.proofs.on_renaming.SizesOfTexts.{put-moved, taken-moved}
use Rattle.mk_edit.proofs.on_renaming.SizesOfWords.{put-replacing, taken-replacing}
use Rattle.mk_edit_language.proofs.on_edits.MadeEdits.{line_change-by_itself}
use Rattle.mk_edit.proofs.on_values.ValuePlaces.{IsValuePlace, IsVariablePlace, value-place, variable-found, variable-place}
use Rattle.mk_edit.proofs.on_line_changes.LinesMade.{HasPlaces, IsWritten, has-places, is-written, words-told}
use Rattle.mk_edit.proofs.on_line_changes.MisreadLines.{bytes-in, misread-in}

-- ---- the sizes of replacements

-- whether there are none is told by their number
none-there : (k : ℕ) (b : Bool) → nat_lt 0 k ≡ b → not b ≡ (k == 0)
none-there zero b h = ap not (sym h)
none-there (suc k) b h = ap not (sym h) ∙ more
  where
    more : not (nat_lt 0 (suc k)) ≡ (suc k == 0)
    more = grind (arith, common_steps)

-- ---- the causes

-- causes that do not hold, before others
after-none : (o p : Option Refusal) (cs : List (Option Refusal)) → first_cause (o ∷ p ∷ []) ≡ None → first_cause (o ∷ p ∷ cs) ≡ first_cause cs
after-none None None cs h = refl
after-none None (Some r) cs h = absurd (cc)
after-none (Some r) p cs h = absurd (cc)

-- what the words of the value decide, as two causes
two-causes : (b : Bool) (r : Refusal) (o : Option Refusal) → first_cause (where_holds b r ∷ o ∷ []) ≡ (if b then Some r else o)
two-causes true r o = refl
two-causes false r None = refl
two-causes false r (Some q) = refl

-- the text that is looked for is not empty
sought-there : (nth : Option ℕ) (n : List ℕ) (c : LineChange) → bad_argument (ChangeLine nth n c) ≡ None → IsSought c
sought-there nth n (Prepend v) h = tt
sought-there nth n (ReplaceWord w v) h = tt
sought-there nth n (InsertWord i w v) h = tt
sought-there nth n (SetOperator o) h = tt
sought-there nth n (Substitute f v) h = some f (first-passed field.From (is_clean f && not (is_empty f)) (Tested field.To (is_clean v) ∷ []) (first-passed field.Name (is_name n) (line_change_tests (Substitute f v)) h).1).0
  where
    some : (f : List ℕ) → (is_clean f && not (is_empty f)) ≡ true → 1 ≤ length f
    some [] k = absurd (go (is_clean []) k)
      where
        go : (b : Bool) → (b && false) ≡ true → ⊥
        go true k = cc
        go false k = cc
    some (b ∷ f) k = omega arith

module _ (ls : List LocatedLine) (nth : Option ℕ) (n : List ℕ) (c : LineChange) (f : Found) (l : LocatedLine) (h : IsFaithful ls) (A : IsAddressed (ChangeLine nth n c) ls f) (P : IsValuePlace ls (Variable nth n) f l) where
  abbrev text : List ℕ
  text = located_text ls

  abbrev lines : List ClassedLine
  lines = classed_lines text

  abbrev edit : Edit
  edit = ChangeLine nth n c

  abbrev base : ℕ
  base = length (text_of P.spot.above)

  abbrev a : Assignment Cell
  a = P.assigned

  own-in : IsAssignmentIn f.context l a
  own-in = record {
    here = ap (λ (z : LocatedLine). class_of f.context z.bytes) P.line_is ∙ P.here;
    class_is = ap (λ (z : LocatedLine). z.class) P.line_is ∙ ap (located_class joined_byte) P.class_is;
  }

  free-name : is_prefix_name (unit_text joined_byte a.name) ≡ false
  free-name =
      let F = assignment-found text n nth (where_holds-none _ _ A.is_there) (where_holds-none _ _ A.is_one) (not_prefix n A.not_reserved) in
      let spot : Some F.spot ≡ Some P.spot = sym F.found_is ∙ P.found_is in
      let same : F.spot ≡ P.spot = cc in
      let classes : Assign F.assigned None ≡ Assign a None = sym F.class_is ∙ (ap (λ (z : StandingLine). z.line.class) same ∙ P.class_is) in
      let assigned : F.assigned ≡ a = cc in
      subst (λ (z : Assignment Cell). is_prefix_name (unit_text joined_byte z.name) ≡ false) assigned F.no_prefix

  own-assigning : IsAssigning f.context l
  own-assigning = record { assigned = a; is = own-in; free = free-name }

  context-is : context_of P.spot.above ≡ f.context
  context-is =
      let F : IsFoundAt lines (Variable nth n) f = A.meant in
      let spot : Some F.spot ≡ Some P.spot = sym F.found_is ∙ P.found_is in
      let same : F.spot ≡ P.spot = cc in
      ap (λ (z : StandingLine). context_of z.above) (sym same) ∙ F.context_is

  bytes-are : P.spot.line.bytes ≡ l.bytes
  bytes-are = ap (λ (z : LocatedLine). z.bytes) (sym P.line_is)

  spans-are : spans_of text lines edit ≡ line_change_spans c base a
  spans-are = ap (where_found (value_spans (line_change_spans c))) P.found_is ∙ ap (assignment_spans (line_change_spans c) base) P.class_is

  absent-is : absent lines edit ≡ where_holds (not (is_line_changed c a)) Absent
  absent-is =
      ap (λ (o : Option StandingLine). where_holds (not (assignment_passes (is_line_changed c) (class_found o))) Absent) P.found_is
      ∙ ap (λ (k : Class Cell). where_holds (not (assignment_passes (is_line_changed c) (Some k))) Absent) P.class_is

  already-is : already lines edit ≡ not_inserted c (Some (Assign a None))
  already-is = ap (λ (o : Option StandingLine). not_inserted c (class_found o)) P.found_is ∙ ap (λ (k : Class Cell). not_inserted c (Some k)) P.class_is

  misread-is : misread lines edit ≡ where_holds (is_misread c f.context l.bytes (Assign a None)) Misread
  misread-is =
      ap (λ (o : Option StandingLine). where_holds (is_found_misread c o) Misread) P.found_is
      ∙ (ap (λ (x : Context). where_holds (is_misread c x P.spot.line.bytes P.spot.line.class) Misread) context-is
      ∙ (ap (λ b. where_holds (is_misread c f.context b P.spot.line.class) Misread) bytes-are ∙ ap (λ (k : Class Cell). where_holds (is_misread c f.context l.bytes k) Misread) P.class_is))

  -- the causes that may hold
  own-causes : first_cause (causes text lines edit) ≡ first_cause (absent lines edit ∷ already lines edit ∷ too_long text (spans_of text lines edit) ∷ misread lines edit ∷ [])
  own-causes =
      let long = too_long text (spans_of text lines edit) in
      let last = long ∷ misread lines edit ∷ [] in
      let others = None ∷ None ∷ None ∷ None ∷ None ∷ None ∷ None ∷ last in
      addressed-all edit ls f _ A (after-cause (absent lines edit) (already lines edit ∷ others) (already lines edit ∷ last) (after-cause (already lines edit) others last refl))

  module _ (at : offsets.Assignment) (q : IsAssignmentAt l at) (ss : List Span) (s : ss ≡ change_places c (text_of_line l) at) (v : List ℕ) (t : v ≡ value_text_located l) where
    placed : HasPlaces c l a ss
    placed = has-places c f.context l a at ss own-in q (sought-there nth n c A.arguments) s

    changed-is : not (is_line_changed c a) ≡ (length ss == 0)
    changed-is = none-there (length ss) (list_any is_replaced (line_pieces c a)) (ap (nat_lt 0) placed.number ∙ replaced-some 0 (line_pieces c a))

    -- the places are a part of the line
    places-short : bytes_in (raw_ranges (line_cells l.bytes) ss) ≤ length l.bytes
    places-short = omega (arith, apart-bytes 0 (length l.bytes) _ placed.apart)

    -- what the words of the value say
    of-words : first_cause (absent lines edit ∷ already lines edit ∷ []) ≡ first_of_words c (length ss) v
    of-words =
        ap (λ o. first_cause (o ∷ already lines edit ∷ [])) (absent-is ∙ ap (λ b. where_holds b Absent) changed-is)
        ∙ (ap (λ o. first_cause (where_holds (length ss == 0) Absent ∷ o ∷ [])) (already-is ∙ words-told c f.context l a at ss v own-in q s t)
        ∙ two-causes (length ss == 0) Absent (not_inserted_in c (length ss) v))

    refused-words : (r : Refusal) → first_of_words c (length ss) v ≡ Some r → spans text edit ≡ Err r
    refused-words r k =
        refused text edit r (own-causes ∙ first-before (absent lines edit ∷ already lines edit ∷ []) (too_long text (spans_of text lines edit) ∷ misread lines edit ∷ []) r (of-words ∙ k))

    module _ (m : List ℕ) (w : m ≡ new_text c (separator_bytes (line_cells l.bytes) (separator_place c (text_of_line l) at)) v) (one : first_of_words c (length ss) v ≡ None) where
      made : IsWritten c l a ss m
      made = is-written c f.context l a at ss v m own-in q (sought-there nth n c A.arguments) s t one w

      -- whether the text would be too long, by what is counted
      abbrev is_long : Bool
      is_long = nat_lt (max_text + bytes_in (raw_ranges (line_cells l.bytes) ss)) (size_of ls + length ss * length m)

      long-is : too_long text (spans_of text lines edit) ≡ where_holds is_long TooLong
      long-is =
          let rs = line_change_spans c base a in
          let taken : bytes_taken rs ≡ bytes_in (raw_ranges (line_cells l.bytes) ss) = taken-moved base 0 (line_pieces c a) ∙ (ap bytes_taken (sym made.pieces) ∙ taken-replacing m (raw_ranges (line_cells l.bytes) ss)) in
          let put : bytes_put rs ≡ length ss * length m =
          put-moved base 0 (line_pieces c a)
          ∙ (ap bytes_put (sym made.pieces) ∙ (put-replacing m (raw_ranges (line_cells l.bytes) ss) ∙ ap (λ k. k * length m) (length-map ss (λ (x : Span). raw_range (line_cells l.bytes) x.start x.end)))) in
          let balanced : AreBalanced (bytes_in (raw_ranges (line_cells l.bytes) ss)) (length ss * length m) rs = omega (arith, taken, put) in
          long-by text edit (bytes_in (raw_ranges (line_cells l.bytes) ss)) (length ss * length m) (subst (AreBalanced (bytes_in (raw_ranges (line_cells l.bytes) ss)) (length ss * length m)) (sym spans-are) balanced)
          ∙ ap (λ k. where_holds (nat_lt (max_text + bytes_in (raw_ranges (line_cells l.bytes) ss)) (k + length ss * length m)) TooLong) (sym (size_of-text ls))

      -- the causes that are left
      left-causes : (b : Bool) → is_long ≡ b → first_cause (causes text lines edit) ≡ first_cause (where_holds b TooLong ∷ misread lines edit ∷ [])
      left-causes b k =
          let last = too_long text (spans_of text lines edit) ∷ misread lines edit ∷ [] in
          own-causes
          ∙ (after-none (absent lines edit) (already lines edit) last (of-words ∙ one) ∙ ap (λ o. first_cause (o ∷ misread lines edit ∷ [])) (long-is ∙ ap (λ z. where_holds z TooLong) k))

      refused-long : is_long ≡ true → spans text edit ≡ Err TooLong
      refused-long k = refused text edit TooLong (left-causes true k)

      left-misread : is_long ≡ false → first_cause (causes text lines edit) ≡ first_cause (misread lines edit ∷ [])
      left-misread k = left-causes false k

  -- ---- whether it is misread

  only-misread : (b : Bool) → first_cause (causes text lines edit) ≡ first_cause (misread lines edit ∷ []) → is_misread c f.context l.bytes (Assign a None) ≡ b → first_cause (causes text lines edit) ≡ first_cause (where_holds b Misread ∷ [])
  only-misread b k e = k ∙ (ap (λ o. first_cause (o ∷ [])) misread-is ∙ ap (λ z. first_cause (where_holds z Misread ∷ [])) e)

  unrefused-but : first_cause (causes text lines edit) ≡ first_cause (misread lines edit ∷ []) → IsUnrefused text edit
  unrefused-but k = go (is_misread c f.context l.bytes (Assign a None)) refl
    where
      go : (b : Bool) → is_misread c f.context l.bytes (Assign a None) ≡ b → IsUnrefused text edit
      go true e = inr (inl (refused text edit Misread (only-misread true k e)))
      go false e = inl (_, unrefused text edit (only-misread false k e))

  misread-there : first_cause (causes text lines edit) ≡ first_cause (misread lines edit ∷ []) → is_misread c f.context l.bytes (Assign a None) ≡ true → spans text edit ≡ Err Misread
  misread-there k e = refused text edit Misread (only-misread true k e)

  -- ---- the plan

  planned-there : (m : List ℕ) → m ≡ line_after c l.bytes a → first_cause (causes text lines edit) ≡ first_cause (misread lines edit ∷ []) → is_misread c f.context l.bytes (Assign a None) ≡ false → IsReplaced edit ls f.at m
  planned-there m k o e =
      let rs = spans_of text lines edit in
      let bytes : respanned_bytes (this_line P.spot) rs ≡ m =
      ap (respanned_bytes (this_line P.spot)) spans-are
      ∙ (ap (λ z. replaced base z (line_change_spans c base a)) (append-nil P.spot.line.bytes ∙ bytes-are) ∙ (line_change-by_itself c base a l.bytes ∙ sym k)) in
      line-replaced edit ls rs P.spot f.at m h (unrefused text edit (only-misread false o e)) (ap (option_map this_line) P.found_is) P.place_is (ap (λ z. z ∷ []) bytes)

-- a refusal that is handed on, perhaps after a line was read
pub handed-on : (e : Edit) (ls : List LocatedLine) (before after : ℕ) (r : Refusal) (result : Result (List Move) Refusal) → IsErrAnd result (λ q. q ≡ r) → IsRefusal (located_text ls) e r
    → after ≤ before + cost (located_text ls) e → before ≤ after → Plans e ls before after result
handed-on e ls before after r (Ok patch) i h few forward = absurd i
handed-on e ls before after r (Err q) i h few forward =
    record { planned = tt; refused = subst (IsRefusal (located_text ls) e) (sym i) h; counted = tt; few_read = few; forward = forward }

-- ---- the whole

-- nothing but Misread is left, and it is decided by the new line
pub record IsLeft (c : LineChange) (e : Edit) (ls : List LocatedLine) (f : Found) (l : LocatedLine) : Type 0 where
  pub unrefused : IsUnrefused (located_text ls) e
  pub misread : is_changed_misread (InAssignment c) f.context l.bytes ≡ true → spans (located_text ls) e ≡ Err Misread
  pub read : is_changed_misread (InAssignment c) f.context l.bytes ≡ false → IsReplaced e ls f.at (each_bytes (InAssignment c) (meant_in f.context l.bytes))

-- What the code asks of a document if the line of an assignment is changed and checked by reading, and what follows from the answers.
pub record IsLineChangeOf (c : LineChange) (e : Edit) (ls : List LocatedLine) (f : Found) : Type 0 where
  pub within : f.at < length ls
  pub place : IsPlaceOf ls f
  pub sought : IsSought c
  pub own : (l : LocatedLine) → Some l ≡ slice_get ls f.at → IsAssigning f.context l
  pub short : (l : LocatedLine) (at : offsets.Assignment) → Some l ≡ slice_get ls f.at → IsAssignmentAt l at → bytes_in (raw_ranges (line_cells l.bytes) (change_places c (text_of_line l) at)) ≤ length l.bytes
  pub refused : (l : LocatedLine) (at : offsets.Assignment) (ss : List Span) (v : List ℕ) (r : Refusal) → Some l ≡ slice_get ls f.at → IsAssignmentAt l at → ss ≡ change_places c (text_of_line l) at
      → v ≡ value_text_located l → first_of_words c (length ss) v ≡ Some r → spans (located_text ls) e ≡ Err r
  pub long : (l : LocatedLine) (at : offsets.Assignment) (ss : List Span) (v m : List ℕ) → Some l ≡ slice_get ls f.at → IsAssignmentAt l at → ss ≡ change_places c (text_of_line l) at
      → v ≡ value_text_located l → m ≡ new_text c (separator_bytes (line_cells l.bytes) (separator_place c (text_of_line l) at)) v → first_of_words c (length ss) v ≡ None
      → nat_lt (max_text + bytes_in (raw_ranges (line_cells l.bytes) ss)) (size_of ls + length ss * length m) ≡ true → spans (located_text ls) e ≡ Err TooLong
  pub left : (l : LocatedLine) (at : offsets.Assignment) (ss : List Span) (v m : List ℕ) → Some l ≡ slice_get ls f.at → IsAssignmentAt l at → ss ≡ change_places c (text_of_line l) at
      → v ≡ value_text_located l → m ≡ new_text c (separator_bytes (line_cells l.bytes) (separator_place c (text_of_line l) at)) v → first_of_words c (length ss) v ≡ None
      → nat_lt (max_text + bytes_in (raw_ranges (line_cells l.bytes) ss)) (size_of ls + length ss * length m) ≡ false → IsLeft c e ls f l

change_line : (nth : Option ℕ) (n : List ℕ) (c : LineChange) (ls : List LocatedLine) (f : Found) → IsFaithful ls → IsAddressed (ChangeLine nth n c) ls f → IsLineChangeOf c (ChangeLine nth n c) ls f
change_line nth n c ls f h A = record {
  within = V.within;
  place = V.place;
  sought = sought-there nth n c A.arguments;
  own = λ l g. own-assigning ls nth n c f l h A (there l g);
  short = λ l at g q. places-short ls nth n c f l h A (there l g) at q _ refl (value_text_located l) refl;
  refused = λ l at ss v r g q s t k. refused-words ls nth n c f l h A (there l g) at q ss s v t r k;
  long = λ l at ss v m g q s t w one k. refused-long ls nth n c f l h A (there l g) at q ss s v t m w one k;
  left = λ l at ss v m g q s t w one k.
      let P = there l g in
      let o = left-misread ls nth n c f l h A P at q ss s v t m w one k in
      record {
        unrefused = unrefused-but ls nth n c f l h A P o;
        misread = λ e. misread-there ls nth n c f l h A P o (sym (misread-in c f.context l P.assigned (own-in ls nth n c f l h A P)) ∙ e);
        read = λ e.
            let I = own-in ls nth n c f l h A P in
            planned-there ls nth n c f l h A P _ (bytes-in c f.context l P.assigned I) o (sym (misread-in c f.context l P.assigned I) ∙ e);
      };
}
  where
    V : IsVariablePlace ls f
    V = variable-place (ChangeLine nth n c) ls f (Variable nth n) h refl A

    there : (l : LocatedLine) → Some l ≡ slice_get ls f.at → IsValuePlace ls (Variable nth n) f l
    there l g = value-place ls (Variable nth n) f l h (variable-found (located_text ls) n nth A.is_there A.is_one (not_prefix n A.not_reserved)) A.meant g

pub change_line-of : (c : LineChange) (e : Edit) (ls : List LocatedLine) (f : Found) → IsFaithful ls → IsLineChange c e → IsAddressed e ls f → IsLineChangeOf c e ls f
change_line-of c e ls f h K A = subst (λ z. IsLineChangeOf c z ls f) (sym K.is) (change_line K.nth K.name c ls f h (subst (λ z. IsAddressed z ls f) K.is A))

-- ---- what the answers of the calls say

-- a refusal when the new line was made: a growth was refused, or it does not read as stated
pub left-refused : (c : LineChange) (e : Edit) (ls : List LocatedLine) (f : Found) (l : LocatedLine) (r : Refusal) → IsLeft c e ls f l → (r ≡ NoMemory) ⊎ ((r ≡ Misread) × (is_changed_misread (InAssignment c) f.context l.bytes ≡ true))
    → IsRefusal (located_text ls) e r
left-refused c e ls f l r L (inl n) = inr (n, L.unrefused)
left-refused c e ls f l r L (inr k) = inl (L.misread k.1 ∙ ap Err (sym k.0))

-- the line was read
on-ok : {A B : Type 0} {X : Type 0} (r : Result A B) → X → OnOk r X
on-ok (Ok x) h = h
on-ok (Err x) h = tt

pub read-anew : (before after : ℕ) (r : Result (List Move) Refusal) → IsOkUnless r NoMemory → AreCounted before 1 after → after ≤ before + 1 → before ≤ after → ReadsAnew 1 before after r
read-anew before after r u counted few forward = record { refused = u; counted = on-ok r counted; few_read = few; forward = forward }

-- the line that was read is exchanged
pub exchanged : (ls : List LocatedLine) (f : Found) (m : List ℕ) (line : LocatedLine) (r : Result (List Move) Refusal) → IsPlaceOf ls f → line ≡ located_line (line_in f.context m)
    → IfOk r (λ patch. patch ≡ Exchange f.at line ∷ []) → IfOk r (λ patch. patch ≡ replacing_moves ls f.at m)
exchanged ls f m line (Err x) p k h = tt
exchanged ls f m line (Ok patch) p k h = h ∙ ap (λ z. Exchange f.at z ∷ []) (k ∙ ap (λ x. located_line (line_in x m)) (sym p))
