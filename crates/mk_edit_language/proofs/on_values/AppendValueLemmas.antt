-- An accepted `AppendValue` changes the reading by this value alone.
use Rattle.std.proofs.Common.{◌≡◌, refl, sym, ap, ◌∙◌, subst, ℕ, List, [], ◌∷◌, ◌++◌, map, Bool, true, false, Option, None, length, ◌+◌, append_assoc, cond, arith, reverse, length-append}
use Rattle.std.proofs.lemmas.List.{map-append}
use Rattle.std.specs.Prelude.{nat_lt, if◌then◌else◌}
use Rattle.mk_lines.specs.Lists.{concat, Each, FirstFails, LastFails}
use Rattle.mk_lines.proofs.on_lists.ListLemmas.{Each-append, Each-left, Each-right, leading-each}
use Rattle.mk_lines.specs.PhysicalLines.{line_end, line_end_bytes}
use Rattle.mk_lines.specs.Cells.{Cell, Byte, joined_byte, raw_text, line_cells, NoLineEnds}
use Rattle.mk_lines.specs.CellFaults.{is_fold, has_stray}
use Rattle.mk_lines.proofs.on_cells.CellLemmas.{raw_text-append, raw_text-bytes}
use Rattle.mk_lines.proofs.on_cells.LineCells.{AreLineCells, AreLineCells-left, AreLineCells-right, AreLineCells-append, bytes-are_line_cells, line-ends, line-keeps_apart, EndLineBefore}
use Rattle.mk_lines.proofs.on_lines.LineEndLemmas.{KeepsApart}
use Rattle.mk_lines.proofs.on_cells.CellsReplaced.{begins_solid-joins, ends_ordinary-joins}
use Rattle.mk_lines.proofs.on_lines.LineLemmas.{OneLine, EndsBefore}
use Rattle.mk_lines.proofs.on_lists.CutLemmas.{pieces-not_empty}
use Rattle.mk_lines.specs.Units.{units, is_closed, unit_step, unit_begins}
use Rattle.mk_lines.specs.Units.UnitState.{Between}
use Rattle.mk_lines.proofs.on_units.UnitLemmas.{units-append, units-first, units-last, is_closed-append, is_closed-map, units-map}
use Rattle.mk_lines.specs.Words.{is_gap}
use Rattle.mk_lines.specs.Pieces.{replaced}
use Rattle.mk_lines.proofs.on_lists.BoolLemmas.{or-left_false}
use Rattle.mk_class.specs.ListTests.{is_empty, last_passes}
use Rattle.mk_class.specs.Texts.{unit_text}
use Rattle.mk_class.specs.CutTexts.{is_no_hash}
use Rattle.mk_class.specs.Assignments.{Assignment, before_value}
use Rattle.mk_class.proofs.on_assignments.ValueLemmas.{IsValueText, value-text}
use Rattle.mk_class.specs.RecipePrefix.{is_prefix_led, is_prefix_name}
use Rattle.mk_class.specs.Arguments.{is_value}
use Rattle.mk_class.specs.Classes.Class.{Assign}
use Rattle.mk_class.specs.Contexts.{Context}
use Rattle.mk_class.specs.ClassTable.{class_of}
use Rattle.mk_class.proofs.on_classes.ClassLemmas.{plain_class-assign, class_at-assign, has_stray-append, has_stray-left, has_stray-right}
use Rattle.mk_class.proofs.on_assignments.AssignmentsWhole.{assignment_units}
use Rattle.mk_class.proofs.on_assignments.AssignmentLineLemmas.{AssignParts, assign_parts, safe-after, line-with_value, line_with, with_text}
use Rattle.mk_class.specs.ClassedLines.{ClassedLine, classed_lines}
use Rattle.mk_class.specs.PartOffsets.{raw_width}
use Rattle.mk_tree.specs.Documents.{text_of, context_of}
use Rattle.mk_tree.proofs.on_documents.LinesInText.{line-in_text, bytes_of}
use Rattle.mk_edit_language.specs.ValueChanges.{value_start, value_end}
use Rattle.mk_edit_language.specs.Changes.{item_with_value}
use Rattle.mk_edit_language.proofs.on_values.BlankAdded.{add_blank, add_blank-append, raw_text-add_blank, add_blank-are_line_cells, has_stray-add_blank, joined-add_blank}
use Rattle.mk_edit_language.proofs.on_values.ValueLines.{IsValue, IsValueLine, with_cells, cells_with, line_of, parts-units, value-line, text-ends}
use Rattle.mk_edit_language.proofs.on_values.FoundAssignments.{no_prefix-set}
use Rattle.mk_edit_language.proofs.on_lines.LineReplaced.{IsLineReplaced, replaced-same}
use Rattle.mk_edit_language.proofs.on_values.ValueEdits.{text-replaced_in_line, value-replaced}
use Rattle.mk_edit_language.proofs.on_values.SetValueLemmas.{bytes-joined, unit_text-units}

-- ---- units of cells, told by their joined bytes

joined-gap : (u : List Cell) → is_gap (λ b. b) (map joined_byte u) ≡ is_gap joined_byte u
joined-gap [] = refl
joined-gap (x ∷ []) = refl
joined-gap (x ∷ y ∷ u) = refl

joined-no_hash : (u : List Cell) → is_no_hash (λ b. b) (map joined_byte u) ≡ is_no_hash joined_byte u
joined-no_hash [] = refl
joined-no_hash (x ∷ []) = refl
joined-no_hash (x ∷ y ∷ u) = refl

module _ (p : List Cell → Bool) (q : List ℕ → Bool) (same : (u : List Cell) → q (map joined_byte u) ≡ p u) where
  each-joined : (us : List (List Cell)) → Each p us → Each q (map (map joined_byte) us)
  each-joined [] h = tt
  each-joined (u ∷ us) h = (same u ∙ h.0, each-joined us h.1)

  each-cells : (us : List (List Cell)) → Each q (map (map joined_byte) us) → Each p us
  each-cells [] h = tt
  each-cells (u ∷ us) h = (sym (same u) ∙ h.0, each-cells us h.1)

  first-joined : (us : List (List Cell)) → FirstFails p us → FirstFails q (map (map joined_byte) us)
  first-joined [] h = tt
  first-joined (u ∷ us) h = same u ∙ h

  first-cells : (us : List (List Cell)) → FirstFails q (map (map joined_byte) us) → FirstFails p us
  first-cells [] h = tt
  first-cells (u ∷ us) h = sym (same u) ∙ h

  last-joined : (us : List (List Cell)) → LastFails p us → LastFails q (map (map joined_byte) us)
  last-joined [] h = tt
  last-joined (u ∷ []) h = same u ∙ h
  last-joined (u ∷ v ∷ us) h = last-joined (v ∷ us) h

  last-cells : (us : List (List Cell)) → LastFails q (map (map joined_byte) us) → LastFails p us
  last-cells [] h = tt
  last-cells (u ∷ []) h = sym (same u) ∙ h
  last-cells (u ∷ v ∷ us) h = last-cells (v ∷ us) h

LastFails-append : {A : Type 0} (p : A → Bool) (xs : List A) (y : A) (ys : List A) → LastFails p (y ∷ ys) → LastFails p (xs ++ y ∷ ys)
LastFails-append p [] y ys h = h
LastFails-append p (x ∷ []) y ys h = h
LastFails-append p (x ∷ z ∷ xs) y ys h = LastFails-append p (z ∷ xs) y ys h

-- ---- a value with a text appended

-- what is put after the joined bytes of a value: a space and the text; only the text if the value ends in a fold, which is read
-- as the space
abbrev after_value : (fold : Bool) → List ℕ → List ℕ
after_value f v = if f then v else 32 ∷ v

-- what is known of it
record IsAppended (s : List ℕ) : Type 0 where
  closed : is_closed (λ b. b) s ≡ true
  no_hash : Each (is_no_hash (λ b. b)) (units (λ b. b) s)
  ends : LastFails (is_gap (λ b. b)) (units (λ b. b) s)
  first : List ℕ
  rest : List (List ℕ)
  units_are : units (λ b. b) s ≡ first ∷ rest

value-appended : (b : ℕ) (v : List ℕ) → IsValueText (b ∷ v) → IsAppended (b ∷ v)
value-appended b v t =
    let same : units (λ x. x) (b ∷ v) ≡ map (map joined_byte) (units joined_byte (map Byte (b ∷ v))) =
    ap (units (λ x. x)) (sym (bytes-joined (b ∷ v))) ∙ units-map joined_byte (λ x. x) (map Byte (b ∷ v)) in
    record {
      closed = ap (is_closed (λ x. x)) (sym (bytes-joined (b ∷ v))) ∙ (is_closed-map joined_byte (λ x. x) (map Byte (b ∷ v)) ∙ t.closed);
      no_hash = subst (Each (is_no_hash (λ x. x))) (sym same) (each-joined (is_no_hash joined_byte) (is_no_hash (λ x. x)) joined-no_hash (units joined_byte (map Byte (b ∷ v))) t.no_hash);
      ends = subst (LastFails (is_gap (λ x. x))) (sym same) (last-joined (is_gap joined_byte) (is_gap (λ x. x)) joined-gap (units joined_byte (map Byte (b ∷ v))) t.ends);
      first = _;
      rest = _;
      units_are = refl;
    }

appended : (f : Bool) (b : ℕ) (v : List ℕ) → IsValueText (b ∷ v) → IsAppended (after_value f (b ∷ v))
appended true b v t = value-appended b v t
appended false b v t =
    let k = value-appended b v t in
    let e : units (λ x. x) (32 ∷ b ∷ v) ≡ (32 ∷ []) ∷ units (λ x. x) (b ∷ v) = units-append (λ x. x) (32 ∷ []) (b ∷ v) refl in
    record {
      closed = is_closed-append (λ x. x) (32 ∷ []) (b ∷ v) refl ∙ k.closed;
      no_hash = subst (Each (is_no_hash (λ x. x))) (sym e) (refl, k.no_hash);
      ends = subst (LastFails (is_gap (λ x. x))) (sym (e ∙ ap (λ z. (32 ∷ []) ∷ z) k.units_are)) (subst (LastFails (is_gap (λ x. x))) k.units_are k.ends);
      first = 32 ∷ [];
      rest = units (λ x. x) (b ∷ v);
      units_are = e;
    }

-- the joined bytes of a value's cells with a space after them and then a text
joined-appended : (c : Cell) (cs : List Cell) (v : List ℕ) → NoLineEnds (c ∷ cs)
    → map joined_byte (add_blank (c ∷ cs) ++ map Byte v) ≡ map joined_byte (c ∷ cs) ++ after_value (last_passes is_fold (c ∷ cs)) v
joined-appended c cs v h =
    map-append joined_byte (add_blank (c ∷ cs)) (map Byte v)
    ∙ (ap (λ z. z ++ map joined_byte (map Byte v)) (joined-add_blank c cs h)
    ∙ (ap (λ z. cond (last_passes is_fold (c ∷ cs)) (map joined_byte (c ∷ cs)) (map joined_byte (c ∷ cs) ++ 32 ∷ []) ++ z) (bytes-joined v)
    ∙ go (last_passes is_fold (c ∷ cs))))
  where
    go : (f : Bool) → cond f (map joined_byte (c ∷ cs)) (map joined_byte (c ∷ cs) ++ 32 ∷ []) ++ v ≡ map joined_byte (c ∷ cs) ++ cond f v (32 ∷ v)
    go true = refl
    go false = append_assoc (map joined_byte (c ∷ cs)) (32 ∷ []) v

-- these cells may be a value
appended-is_value : (W : List Cell) (V : List Cell) (s : List ℕ) (G : List (List Cell)) (u : List Cell) (us : List (List Cell)) → units joined_byte W ≡ u ∷ us → is_closed joined_byte W ≡ true
    → Each (is_no_hash joined_byte) (units joined_byte W) → FirstFails (is_gap joined_byte) (units joined_byte W) → Each (is_gap joined_byte) G → has_stray V ≡ false
    → map joined_byte V ≡ map joined_byte W ++ s → IsAppended s → IsValue V G
appended-is_value W V s G u us h c n f g y e k =
    let J = map joined_byte W in
    let whole : units (λ b. b) J ≡ map (map joined_byte) (units joined_byte W) = units-map joined_byte (λ b. b) W in
    let closed : is_closed (λ b. b) J ≡ true = is_closed-map joined_byte (λ b. b) W ∙ c in
    let all : map (map joined_byte) (units joined_byte V) ≡ map (map joined_byte) (units joined_byte W) ++ units (λ b. b) s =
    sym (units-map joined_byte (λ b. b) V) ∙ (ap (units (λ b. b)) e ∙ (units-append (λ b. b) J s closed ∙ ap (λ z. z ++ units (λ b. b) s) whole)) in
    let some : map (map joined_byte) (units joined_byte V) ≡ (map joined_byte u ∷ map (map joined_byte) us) ++ units (λ b. b) s = all ∙ ap (λ z. map (map joined_byte) z ++ units (λ b. b) s) h in
    let hash = each-joined (is_no_hash joined_byte) (is_no_hash (λ b. b)) joined-no_hash (units joined_byte W) n in
    let first : FirstFails (is_gap (λ b. b)) (map joined_byte u ∷ map (map joined_byte) us) =
    first-joined (is_gap joined_byte) (is_gap (λ b. b)) joined-gap (u ∷ us) (subst (FirstFails (is_gap joined_byte)) h f) in
    let last : LastFails (is_gap (λ b. b)) (map (map joined_byte) (units joined_byte W) ++ units (λ b. b) s) =
    subst (λ z. LastFails (is_gap (λ b. b)) (map (map joined_byte) (units joined_byte W) ++ z)) (sym k.units_are)
    (LastFails-append (is_gap (λ b. b)) (map (map joined_byte) (units joined_byte W)) k.first k.rest (subst (LastFails (is_gap (λ b. b))) k.units_are k.ends)) in
    record {
      closed = sym (is_closed-map joined_byte (λ b. b) V) ∙ (ap (is_closed (λ b. b)) e ∙ (is_closed-append (λ b. b) J s closed ∙ k.closed));
      no_hash = each-cells (is_no_hash joined_byte) (is_no_hash (λ b. b)) joined-no_hash (units joined_byte V)
          (subst (Each (is_no_hash (λ b. b))) (sym all) (Each-append (is_no_hash (λ b. b)) (map (map joined_byte) (units joined_byte W)) (units (λ b. b) s) hash k.no_hash));
      are_value = record {
        begins = first-cells (is_gap joined_byte) (is_gap (λ b. b)) joined-gap (units joined_byte V) (subst (FirstFails (is_gap (λ b. b))) (sym some) first);
        ends = last-cells (is_gap joined_byte) (is_gap (λ b. b)) joined-gap (units joined_byte V) (subst (LastFails (is_gap (λ b. b))) (sym all) last);
        blanks_after = g;
        empty = λ z. absurd (let x : map (map joined_byte) [] ≡ map joined_byte u ∷ (map (map joined_byte) us ++ units (λ b. b) s) = ap (map (map joined_byte)) (sym z) ∙ some in cc);
      };
      no_stray = y;
    }

-- ---- the line

no_cells : (u : List Cell) (us : List (List Cell)) → (u ≡ [] → ⊥) → (c : Cell) × (cs : List Cell) × (concat (u ∷ us) ≡ c ∷ cs)
no_cells [] us h = absurd (h refl)
no_cells (c ∷ u) us h = (c, u ++ concat us, refl)

-- the units of a value are those of its cells, and none is empty
pub record AreValueUnits (l : List ℕ) (a : Assignment Cell) : Type 0 where
  pub units_are : units joined_byte (concat a.value) ≡ a.value
  pub not_empty : (u : List Cell) (us : List (List Cell)) → a.value ≡ u ∷ us → u ≡ [] → ⊥
  pub no_hash : Each (is_no_hash joined_byte) a.value

pub value-units : (l : List ℕ) (a : Assignment Cell) (p : AssignParts l a) → AreValueUnits l a
value-units l a p =
    let B = before_value a in
    let e : units joined_byte (line_cells l) ≡ B ++ (a.value ++ (a.after ++ p.rest)) = parts-units l a a.value a.after p refl in
    let last : units joined_byte (concat (a.value ++ (a.after ++ p.rest))) ≡ a.value ++ (a.after ++ p.rest) = units-last joined_byte (line_cells l) B (a.value ++ (a.after ++ p.rest)) e in
    let s : assignment_units a ≡ B ++ (a.value ++ a.after) = simp append_assoc in
    let test = is_no_hash joined_byte in
    let old : Each test (B ++ (a.value ++ a.after)) = subst (Each test) s (subst (Each test) (sym p.is.whole) (leading-each test (units joined_byte (line_cells l)))) in
    record {
      units_are = units-first joined_byte (concat (a.value ++ (a.after ++ p.rest))) a.value (a.after ++ p.rest) last;
      not_empty = λ u us h k.
          pieces-not_empty (unit_step joined_byte) (unit_begins joined_byte) Between (line_cells l) B (us ++ (a.after ++ p.rest))
          (e ∙ (ap (λ z. B ++ (z ++ (a.after ++ p.rest))) h ∙ ap (λ z. B ++ (z ∷ (us ++ (a.after ++ p.rest)))) k));
      no_hash = Each-left test a.value a.after (Each-right test B (a.value ++ a.after) old);
    }

-- the cells of the value with a text appended
abbrev appended_cells : Assignment Cell → (value : List ℕ) → List Cell
appended_cells a v = add_blank (concat a.value) ++ map Byte v

-- what holds for the line with a text appended to its value
record IsAppendedLine (c : Context) (l : List ℕ) (below : List (List ℕ)) (a : Assignment Cell) (v : List ℕ) : Type 0 where
  parts : AssignParts l a
  line : IsValueLine c l below a (appended_cells a v) a.after parts.rest
  bytes : line_of (cells_with a (appended_cells a v) a.after parts.rest) (line_end_bytes (line_end l))
      ≡ (raw_text (concat (before_value a) ++ concat a.value) ++ ((32 ∷ v) ++ raw_text (concat (a.after ++ parts.rest)))) ++ line_end_bytes (line_end l)
  value : unit_text joined_byte (with_cells a (appended_cells a v) a.after).value ≡ unit_text joined_byte a.value ++ after_value (last_passes is_fold (concat a.value)) v

line-appended : (c : Context) (l : List ℕ) (below : List (List ℕ)) (a : Assignment Cell) (sets : Option ℕ) (b : ℕ) (v : List ℕ) (u : List Cell) (us : List (List Cell)) → a.value ≡ u ∷ us
    → is_closed joined_byte (concat a.value) ≡ true → IsValueText (b ∷ v) → class_of c l ≡ Assign a sets → OneLine l → EndsBefore l below → IsAppendedLine c l below a (b ∷ v)
line-appended c l below a sets b v u us some closed t h o n =
    let led = is_prefix_led c.prefix l in
    let r = class_at-assign led c.defines c.flag (nat_lt 0 c.conditionals) (line_cells l) (units joined_byte (line_cells l)) a sets h in
    let i = plain_class-assign led (nat_lt 0 c.conditionals) (line_cells l) (units joined_byte (line_cells l)) a sets r.here in
    let p = assign_parts l a i in
    let k = value-units l a p in
    let P = concat (before_value a) in
    let W = concat a.value in
    let Q = concat (a.after ++ p.rest) in
    let M = map Byte (b ∷ v) in
    let A = add_blank W in
    let V = A ++ M in
    let w = no_cells u us (k.not_empty u us some) in
    let filled : W ≡ w.0 ∷ w.1 = ap concat some ∙ w.2 in
    let old : AreLineCells (P ++ (W ++ Q)) = p.are_line_cells in
    let front : AreLineCells (P ++ W) = AreLineCells-left (P ++ W) Q (subst AreLineCells (sym (append_assoc P W Q)) old) in
    let grown : add_blank (P ++ W) ≡ P ++ A = ap (λ z. add_blank (P ++ z)) filled ∙ (add_blank-append P w.0 w.1 ∙ ap (λ z. P ++ add_blank z) (sym filled)) in
    let tail : AreLineCells (M ++ Q) =
    AreLineCells-append M Q (bytes-are_line_cells (b ∷ v) t.plain.inner) (AreLineCells-right (P ++ W) Q (subst AreLineCells (sym (append_assoc P W Q)) old)) (ends_ordinary-joins (b ∷ v) Q t.plain.ends) in
    let new : AreLineCells ((P ++ A) ++ (M ++ Q)) =
    AreLineCells-append (P ++ A) (M ++ Q) (subst AreLineCells grown (add_blank-are_line_cells (P ++ W) front)) tail (begins_solid-joins (P ++ A) (b ∷ v) Q t.plain.begins) in
    let form : (P ++ A) ++ (M ++ Q) ≡ P ++ (V ++ Q) = append_assoc P A (M ++ Q) ∙ ap (λ z. P ++ z) (sym (append_assoc A M Q)) in
    let keeps : KeepsApart (line_end l) (reverse (raw_text ((P ++ W) ++ Q))) =
    subst (λ z. KeepsApart (line_end l) (reverse (raw_text z))) (p.cells_are ∙ sym (append_assoc P W Q)) (line-keeps_apart l) in
    let ends : EndLineBefore (line_end l) ((P ++ W) ++ Q) below = subst (λ z. EndLineBefore (line_end l) z below) (p.cells_are ∙ sym (append_assoc P W Q)) (line-ends l below o n) in
    let e = text-ends l below (P ++ W) (P ++ A) Q (b ∷ v) (safe-after a.after p.rest p.is.are_value.blanks_after p.stops) (subst AreLineCells (sym (append_assoc P W Q)) old) new t.plain.ends keeps ends in
    let stray : has_stray W ≡ false = has_stray-left W Q (has_stray-right P (W ++ Q) (subst (λ z. has_stray z ≡ false) p.cells_are (or-left_false (has_stray (line_cells l)) _ i.readable))) in
    let joined : map joined_byte V ≡ map joined_byte W ++ after_value (last_passes is_fold W) (b ∷ v) =
    subst (λ z. map joined_byte (add_blank z ++ M) ≡ map joined_byte z ++ after_value (last_passes is_fold z) (b ∷ v)) (sym filled)
    (joined-appended w.0 w.1 (b ∷ v) (subst NoLineEnds filled (AreLineCells-right P W front).clean.0)) in
    let is : IsValue V a.after =
    appended-is_value W V (after_value (last_passes is_fold W) (b ∷ v)) a.after u us (k.units_are ∙ some) closed (subst (Each (is_no_hash joined_byte)) (sym k.units_are) k.no_hash)
    (subst (FirstFails (is_gap joined_byte)) (sym k.units_are) p.is.are_value.begins) p.is.are_value.blanks_after
    (has_stray-append A M (has_stray-add_blank W stray) t.no_stray) joined (appended (last_passes is_fold W) b v t) in
    record {
      parts = p;
      line = value-line c l below a sets V a.value a.after h p refl is (subst AreLineCells form new) (subst (λ z. KeepsApart (line_end l) (reverse (raw_text z))) form e.0) (subst (λ z. EndLineBefore (line_end l) z below) form e.1);
      bytes =
          ap (λ z. raw_text z ++ line_end_bytes (line_end l)) (sym form ∙ ap (λ z. z ++ (M ++ Q)) (sym grown))
          ∙ ap (λ z. z ++ line_end_bytes (line_end l))
          (raw_text-append (add_blank (P ++ W)) (M ++ Q)
          ∙ (ap (λ z. z ++ raw_text (M ++ Q)) (raw_text-add_blank (P ++ W))
          ∙ (append_assoc (raw_text (P ++ W)) (32 ∷ []) (raw_text (M ++ Q))
          ∙ ap (λ z. raw_text (P ++ W) ++ 32 ∷ z) (raw_text-append M Q ∙ ap (λ z. z ++ raw_text Q) (raw_text-bytes (b ∷ v))))));
      value = unit_text-units V ∙ joined;
    }

-- an assignment's line with a text appended to its value
pub append_value-line : (t : List ℕ) (A : List ClassedLine) (l : ClassedLine) (B : List ClassedLine) (a : Assignment Cell) (b : ℕ) (v : List ℕ)
    → classed_lines t ≡ A ++ l ∷ B → l.class ≡ Assign a None → is_prefix_name (unit_text joined_byte a.name) ≡ false → is_value (b ∷ v) ≡ true → is_closed joined_byte (concat a.value) ≡ true
    → (U : List (List Cell)) → a.value ≡ U
    → IsLineReplaced (replaced 0 t (record { start = value_end (length (text_of A)) a; end = value_end (length (text_of A)) a; new = if is_empty U then b ∷ v else 32 ∷ b ∷ v } ∷ [])) A B
    (item_with_value a (unit_text joined_byte a.value ++ (if is_empty U then b ∷ v else after_value (last_passes is_fold (concat a.value)) (b ∷ v))))
append_value-line t A l B a b v h k f i closed [] e =
    let c = context_of A in
    let L = line-in_text t A l B h in
    let w = line-with_value c l.bytes (bytes_of B) a None (b ∷ v) (value-text b v i) (L.class ∙ k) L.one L.ends in
    let at = length (text_of A) in
    let none : raw_width a.value ≡ 0 = ap raw_width e in
    let s : value_end at a ≡ value_start at a = ap (λ z. value_start at a + z) none ∙ omega arith in
    let j : value_end at a ≡ value_end at a + raw_width a.value = sym (ap (λ z. value_end at a + z) none ∙ omega arith) in
    let text = text-replaced_in_line t A l B (concat (before_value a)) (concat a.value) (concat (a.after ++ w.parts.rest)) (b ∷ v) (value_end at a) (value_end at a) h w.parts.cells_are s j in
    let m = line_with a w.parts.rest (b ∷ v) (line_end_bytes (line_end l.bytes)) in
    let value : b ∷ v ≡ unit_text joined_byte a.value ++ b ∷ v = ap (λ z. unit_text joined_byte z ++ b ∷ v) (sym e) in
    replaced-same _ _ A B _ _ (sym text) refl
    (value-replaced t A l B a m (map Byte (b ∷ v)) a.after (unit_text joined_byte a.value ++ b ∷ v) h k w.line.one w.line.ends
    (w.class ∙ ap (Assign (with_text a (b ∷ v))) (no_prefix-set (nat_lt 0 c.conditionals) (with_text a (b ∷ v)) f))
    (unit_text-units (map Byte (b ∷ v)) ∙ (bytes-joined (b ∷ v) ∙ value)))
append_value-line t A l B a b v h k f i closed (u ∷ us) e =
    let c = context_of A in
    let L = line-in_text t A l B h in
    let w = line-appended c l.bytes (bytes_of B) a None b v u us e closed (value-text b v i) (L.class ∙ k) L.one L.ends in
    let at = length (text_of A) in
    let P = concat (before_value a) in
    let W = concat a.value in
    let V = appended_cells a (b ∷ v) in
    let Q = concat (a.after ++ w.parts.rest) in
    let cells : line_cells l.bytes ≡ (P ++ W) ++ ([] ++ Q) = w.parts.cells_are ∙ sym (append_assoc P W Q) in
    let s : value_end at a ≡ at + length (raw_text (P ++ W)) =
    omega (arith, ap length (raw_text-append P W) ∙ length-append (raw_text P) (raw_text W)) in
    let j : value_end at a ≡ value_end at a + 0 = omega arith in
    let text = text-replaced_in_line t A l B (P ++ W) [] Q (32 ∷ b ∷ v) (value_end at a) (value_end at a) h cells s j in
    replaced-same _ _ A B _ _ (sym (text ∙ ap (λ z. text_of A ++ (z ++ text_of B)) (sym w.bytes))) refl
    (value-replaced t A l B a (line_of (cells_with a V a.after w.parts.rest) (line_end_bytes (line_end l.bytes))) V a.after
    (unit_text joined_byte a.value ++ after_value (last_passes is_fold W) (b ∷ v)) h k w.line.one w.line.ends
    (w.line.class ∙ ap (Assign (with_cells a V a.after)) (no_prefix-set (nat_lt 0 c.conditionals) (with_cells a V a.after) f)) w.value)
