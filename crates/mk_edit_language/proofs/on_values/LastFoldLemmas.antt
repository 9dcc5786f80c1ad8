-- An accepted `SetValue` to nothing changes the reading by this value alone. If a part of a fold stays without its next line,
-- the value is one lone backslash.
use Rattle.std.proofs.Common.{◌≡◌, refl, sym, ap, ◌∙◌, subst, ℕ, List, [], ◌∷◌, ◌++◌, map, Bool, true, false, not, ◌&&◌, ◌==◌, Option, Some, None, length, append_assoc, reverse, cond}
use Rattle.std.proofs.lemmas.Bool.{eqb-true, or_from, and_parts}
use Rattle.std.proofs.lemmas.List.{append-nil, reverse-append, reverse-reverse}
use Rattle.std.specs.Prelude.{nat_lt}
use Rattle.mk_lines.specs.Lists.{concat, leading, Each}
use Rattle.mk_lines.proofs.on_lists.ListLemmas.{concat-append, Each-append, Each-left, leading-each, leading-append_all}
use Rattle.mk_lines.specs.Bytes.{ByteKind, byte_kind, is_blank_kind, is_backslash_kind}
use Rattle.mk_lines.specs.Bytes.ByteKind.{LineFeed, CarriageReturn, Backslash, Blank, Ordinary}
use Rattle.mk_lines.specs.PhysicalLines.{line_end, line_end_bytes, without_line_end}
use Rattle.mk_lines.specs.LogicalLines.{has_no_line_end}
use Rattle.mk_lines.specs.declared.ends.End.{End}
use Rattle.mk_lines.specs.declared.ends.End.TheVariants as ends
use Rattle.mk_lines.specs.Cells.{Cell, Byte, Fold, LfEnd, CrLfEnd, joined_byte, is_blank_cell, raw_text, cells, line_cells, is_line_end}
use Rattle.mk_lines.specs.CellFaults.{has_stray, is_stray, is_stray_by, has_bad_fold}
use Rattle.mk_lines.proofs.on_cells.CellLemmas.{AreCells, AreCells-left, raw_text-append, raw_text-cells, cells-are_cells}
use Rattle.mk_lines.proofs.on_lines.LineLemmas.{OneLine, EndsBefore}
use Rattle.mk_lines.proofs.on_lines.LineEndLemmas.{KeepsApart, FirstIsNot, without_line_end-line_end}
use Rattle.mk_lines.proofs.on_cells.LineOfCells.{IsClean}
use Rattle.mk_lines.proofs.on_cells.LineCells.{AreLineCells, AreLineCells-left, AreLineCells-right, AreLineCells-append, AreLineCells-cells, Joins-ordinary, is_bad_before, line-of_cells}
use Rattle.mk_lines.specs.Units.{units, is_closed, is_between, next_unit_state}
use Rattle.mk_lines.specs.Units.UnitState.{Between}
use Rattle.mk_lines.proofs.on_units.UnitLemmas.{EndsPlain, EndsPlain-append, EndsPlain-closed, units-append, units-first}
use Rattle.mk_lines.specs.Words.{is_gap}
use Rattle.mk_lines.specs.Pieces.{replaced}
use Rattle.mk_lines.proofs.on_lists.BoolLemmas.{or-left_false}
use Rattle.mk_class.specs.ListTests.{is_empty, last_passes}
use Rattle.mk_class.specs.Texts.{unit_text}
use Rattle.mk_class.specs.Symbols.{byte_symbol, is_equals, is_hash_symbol}
use Rattle.mk_class.specs.Symbols.Symbol.{Equals}
use Rattle.mk_class.proofs.on_symbols.SymbolLemmas.{byte_symbol-byte, equals_symbol-is, equals-plain, gap-plain, gap-no_symbol}
use Rattle.mk_class.specs.CutTexts.{cut_text, is_no_hash}
use Rattle.mk_class.specs.Assignments.{Assignment, assignment, before_value}
use Rattle.mk_class.proofs.on_assignments.AssignmentsWhole.{AreValue, HasEquals, assignment-has_equals, assignment_units}
use Rattle.mk_class.proofs.on_assignments.AssignmentLineLemmas.{AssignParts, assign_parts, cells-before, some_raw, led-same, cells_class}
use Rattle.mk_class.specs.RecipePrefix.{is_prefix_led, is_prefix_name, prefix_set_by}
use Rattle.mk_class.specs.Arguments.{is_value}
use Rattle.mk_class.specs.Classes.Class.{Assign}
use Rattle.mk_class.specs.Contexts.{Context, context_after}
use Rattle.mk_class.specs.ClassTable.{class_of, plain_class, is_unreadable}
use Rattle.mk_class.proofs.on_classes.ClassLemmas.{IsAssignLine, plain_class-assign, assign-plain_class, class_at-assign, has_stray-append, has_stray-left, assignment-filled}
use Rattle.mk_class.specs.ClassedLines.{ClassedLine, classed_lines}
use Rattle.mk_tree.specs.Documents.{text_of, context_of}
use Rattle.mk_tree.proofs.on_documents.LinesInText.{line-in_text, bytes_of}
use Rattle.mk_edit_language.specs.ValueChanges.{set_value_span}
use Rattle.mk_edit_language.specs.Changes.{item_with_value, leaves_fold_last, value_set}
use Rattle.mk_edit_language.proofs.on_values.ValueLines.{parts-units}
use Rattle.mk_edit_language.proofs.on_values.FoundAssignments.{no_prefix-set}
use Rattle.mk_edit_language.proofs.on_values.FoldEnds.{escape_cells, fold-ends_escaped}
use Rattle.mk_edit_language.proofs.on_lines.LineReplaced.{IsLineReplaced, replaced-line, replaced-same}
use Rattle.mk_edit_language.proofs.on_values.SetValueLemmas.{set_value-line}
use Rattle.mk_edit_language.proofs.on_values.SetValueEmptyLemmas.{line-emptied, text-emptied, set_value-emptied, last-same, last_of_reverse, last-append, last-line}

-- ---- blanks and folds, and a lone backslash

-- each cell as a unit
abbrev alone : List Cell → List (List Cell)
alone cs = map (λ c. c ∷ []) cs

-- blanks and folds, and then a lone backslash
abbrev before_backslash : List Cell → List Cell
before_backslash bs = bs ++ Byte 92 ∷ []

blank-alone_gaps : (bs : List Cell) → Each is_blank_cell bs → Each (is_gap joined_byte) (alone bs)
blank-alone_gaps [] h = tt
blank-alone_gaps (c ∷ bs) h = (h.0, blank-alone_gaps bs h.1)

gaps-blank : (gs : List (List Cell)) → Each (is_gap joined_byte) gs → Each is_blank_cell (concat gs)
gaps-blank [] h = tt
gaps-blank ([] ∷ gs) h = absurd (let z : false ≡ true = h.0 in cc)
gaps-blank ((c ∷ []) ∷ gs) h = (h.0, gaps-blank gs h.1)
gaps-blank ((c ∷ d ∷ u) ∷ gs) h = absurd (let z : false ≡ true = h.0 in cc)

gaps-no_hash : (gs : List (List Cell)) → Each (is_gap joined_byte) gs → Each (is_no_hash joined_byte) gs
gaps-no_hash [] h = tt
gaps-no_hash (g ∷ gs) h = (ap (λ s. not (is_hash_symbol s)) (gap-no_symbol joined_byte g h.0), gaps-no_hash gs h.1)

-- the units are each blank and fold, and the backslash
units-backslash : (bs : List Cell) → Each is_blank_cell bs → units joined_byte (before_backslash bs) ≡ alone bs ++ (Byte 92 ∷ []) ∷ []
units-backslash [] h = refl
units-backslash (c ∷ bs) h =
    units-append joined_byte (c ∷ []) (before_backslash bs) (ap (λ m. is_between (next_unit_state Between m)) (gap-plain joined_byte (c ∷ []) h.0))
    ∙ ap (λ z. (c ∷ []) ∷ z) (units-backslash bs h.1)

-- a blank or a fold is neither a line end, nor a backslash, nor a stray byte
blank-no_line_end : (c : Cell) → is_blank_cell c ≡ true → not (is_line_end c) ≡ true
blank-no_line_end (Byte b) h = refl
blank-no_line_end (Fold r) h = refl
blank-no_line_end (LfEnd r) h = cc
blank-no_line_end (CrLfEnd r) h = cc

blank-no_backslash : (k : ByteKind) (z : Bool) → is_blank_kind k ≡ true → (is_backslash_kind k && z) ≡ false
blank-no_backslash LineFeed z h = refl
blank-no_backslash CarriageReturn z h = refl
blank-no_backslash Backslash z h = cc
blank-no_backslash Blank z h = refl
blank-no_backslash Ordinary z h = refl

blank-no_stray : (b : ℕ) → is_blank_kind (byte_kind b) ≡ true → is_stray_by (byte_kind b) (b == 0) ≡ false
blank-no_stray b h = go (byte_kind b) (b == 0) refl refl h
  where
    go : (k : ByteKind) (z : Bool) → byte_kind b ≡ k → (b == 0) ≡ z → is_blank_kind k ≡ true → is_stray_by k z ≡ false
    go LineFeed z e f h = cc
    go CarriageReturn z e f h = cc
    go Backslash z e f h = cc
    go Blank true e f h = absurd (let n : b ≡ 0 = eqb-true b 0 f in let k : Blank ≡ Ordinary = sym e ∙ ap byte_kind n in cc)
    go Blank false e f h = refl
    go Ordinary z e f h = cc

backslash-no_stray : (bs : List Cell) → Each is_blank_cell bs → has_stray (before_backslash bs) ≡ false
backslash-no_stray [] h = refl
backslash-no_stray (c ∷ bs) h = or_from (is_stray c) (has_stray (before_backslash bs)) (blank-no_stray (joined_byte c) h.0) (backslash-no_stray bs h.1)

backslash-clean : (bs : List Cell) → Each is_blank_cell bs → IsClean (before_backslash bs)
backslash-clean [] h = ((refl, tt), refl)
backslash-clean (c ∷ bs) h =
    let k = backslash-clean bs h.1 in (
      (blank-no_line_end c h.0, k.0),
      or_from (is_bad_before c (before_backslash bs)) (has_bad_fold (before_backslash bs)) (blank-no_backslash (byte_kind (joined_byte c)) _ h.0) k.1,
    )

-- ---- a fold that comes last

-- the line end that a fold's backslash escapes
abbrev escaped_end : (cr : Bool) → End
escaped_end false = ends.Lf
escaped_end true = ends.CrLf

escaped-end : (bs : List Cell) (cr : Bool) → raw_text (bs ++ escape_cells cr) ++ 10 ∷ [] ≡ raw_text (before_backslash bs) ++ line_end_bytes (escaped_end cr)
escaped-end bs false = refl
escaped-end bs true = rw (raw_text-append bs (escape_cells true), raw_text-append bs (Byte 92 ∷ [])) (simp append_assoc)

escaped-are_cells : (bs : List Cell) (cr : Bool) → AreCells (bs ++ escape_cells cr) → AreCells (before_backslash bs)
escaped-are_cells bs false h = h
escaped-are_cells bs true h = AreCells-left (before_backslash bs) (Byte 13 ∷ []) (subst AreCells (sym (append_assoc bs (Byte 92 ∷ []) (Byte 13 ∷ []))) h)

-- What blanks and folds G after the cells F are, if their text ends in a line feed: blanks and folds, a lone backslash, and a
-- line end.
record EndsInBackslash (F G : List Cell) : Type 0 where
  blanks : List Cell
  are_blank : Each is_blank_cell blanks
  end : End
  are_line_cells : AreLineCells (F ++ before_backslash blanks)
  apart : KeepsApart end (reverse (raw_text (F ++ before_backslash blanks)))
  text : raw_text (F ++ G) ≡ raw_text (F ++ before_backslash blanks) ++ line_end_bytes end

-- the text of what stands after a `=` ends in the line feed, if the whole does
ends-after_equals : (f G : List Cell) (y : List ℕ) → raw_text ((f ++ Byte 61 ∷ []) ++ G) ≡ y ++ 10 ∷ [] → (x : List ℕ) × (raw_text G ≡ x ++ 10 ∷ [])
ends-after_equals f G y h = go (reverse (raw_text G)) refl
  where
    whole : raw_text (f ++ Byte 61 ∷ []) ++ raw_text G ≡ y ++ 10 ∷ []
    whole = sym (raw_text-append (f ++ Byte 61 ∷ []) G) ∙ h

    go : (r : List ℕ) → reverse (raw_text G) ≡ r → (x : List ℕ) × (raw_text G ≡ x ++ 10 ∷ [])
    go [] e =
        let none : raw_text G ≡ [] = sym (reverse-reverse (raw_text G)) ∙ ap reverse e in
        let k : raw_text f ++ 61 ∷ [] ≡ y ++ 10 ∷ [] =
        sym (raw_text-append f (Byte 61 ∷ [])) ∙ (sym (append-nil (raw_text (f ++ Byte 61 ∷ []))) ∙ (ap (λ z. raw_text (f ++ Byte 61 ∷ []) ++ z) (sym none) ∙ whole)) in
        let n : Ordinary ≡ LineFeed = ap byte_kind (last-same (raw_text f) y 61 10 k) in
        absurd (cc)
    go (c ∷ r) e =
        let k : raw_text G ≡ reverse r ++ c ∷ [] = last_of_reverse (raw_text G) c r e in
        let n : c ≡ 10 =
        last-same (raw_text (f ++ Byte 61 ∷ []) ++ reverse r) y c 10
        (append_assoc (raw_text (f ++ Byte 61 ∷ [])) (reverse r) (c ∷ []) ∙ (ap (λ z. raw_text (f ++ Byte 61 ∷ []) ++ z) (sym k) ∙ whole)) in
        (reverse r, k ∙ ap (λ z. reverse r ++ z ∷ []) n)

backslash-apart : (F bs : List Cell) (cr : Bool) → KeepsApart (escaped_end cr) (reverse (raw_text (F ++ before_backslash bs)))
backslash-apart F bs true = tt
backslash-apart F bs false =
    let e : raw_text (F ++ before_backslash bs) ≡ raw_text (F ++ bs) ++ 92 ∷ [] = ap raw_text (sym (append_assoc F bs (Byte 92 ∷ []))) ∙ raw_text-append (F ++ bs) (Byte 92 ∷ []) in
    subst (FirstIsNot CarriageReturn) (sym (ap reverse e ∙ reverse-append (raw_text (F ++ bs)) (92 ∷ []))) (λ k. cc)

fold-left : (f G : List Cell) (y : List ℕ) → Each is_blank_cell G → AreLineCells ((f ++ Byte 61 ∷ []) ++ G) → raw_text ((f ++ Byte 61 ∷ []) ++ G) ≡ y ++ 10 ∷ []
    → EndsInBackslash (f ++ Byte 61 ∷ []) G
fold-left f G y b g h =
    let F = f ++ Byte 61 ∷ [] in
    let x = ends-after_equals f G y h in
    let same : cells (x.0 ++ 10 ∷ []) ≡ G = ap cells (sym x.1) ∙ AreLineCells-cells G (AreLineCells-right F G g) in
    let E = fold-ends_escaped x.0 (subst (Each is_blank_cell) (sym same) b) in
    let D = before_backslash E.blanks in
    let text : raw_text G ≡ raw_text D ++ line_end_bytes (escaped_end E.cr) = x.1 ∙ (ap (λ z. z ++ 10 ∷ []) (sym (raw_text-cells x.0) ∙ ap raw_text E.is) ∙ escaped-end E.blanks E.cr) in
    let last : AreLineCells D = record { are_cells = escaped-are_cells E.blanks E.cr (subst AreCells E.is (cells-are_cells x.0)); clean = backslash-clean E.blanks E.are_blank } in
    record {
      blanks = E.blanks;
      are_blank = E.are_blank;
      end = escaped_end E.cr;
      are_line_cells = AreLineCells-append F D (AreLineCells-left F G g) last (Joins-ordinary f 61 D refl);
      apart = backslash-apart F E.blanks E.cr;
      text = raw_text-append F G
          ∙ (ap (λ z. raw_text F ++ z) text ∙ (sym (append_assoc (raw_text F) (raw_text D) (line_end_bytes (escaped_end E.cr))) ∙ ap (λ z. z ++ line_end_bytes (escaped_end E.cr)) (sym (raw_text-append F D))));
    }

-- ---- the line

equals-cell : (u : List Cell) → is_equals joined_byte u ≡ true → u ≡ Byte 61 ∷ []
equals-cell [] h = cc
equals-cell (Byte b ∷ []) h = ap (λ z. Byte z ∷ []) (byte_symbol-byte b Equals (λ x. cc) (equals_symbol-is (byte_symbol b) h))
equals-cell (Fold r ∷ []) h = cc
equals-cell (LfEnd r ∷ []) h = cc
equals-cell (CrLfEnd r ∷ []) h = cc
equals-cell (c ∷ d ∷ u) h = cc

-- the assignment with a lone backslash as its value, and this operator
abbrev with_backslash : Assignment Cell → (operator : List (List Cell)) → Assignment Cell
with_backslash a o = record a { operator = o; value = (Byte 92 ∷ []) ∷ []; after = [] }

backslash-is_value : AreValue joined_byte ((Byte 92 ∷ []) ∷ []) []
backslash-is_value = record { begins = refl; ends = refl; blanks_after = tt; empty = λ e. absurd (cc) }

-- Cells up to the first `=` of an assignment, then blanks and folds and a lone backslash: it is that assignment with this value.
backslash-assigned : (l : List ℕ) (a : Assignment Cell) (p : AssignParts l a) (h : HasEquals joined_byte a) (bs : List Cell) → Each is_blank_cell bs
    → (o : List (List Cell)) × (assignment joined_byte (cut_text joined_byte (units joined_byte (concat (h.front ++ (h.equals ∷ [])) ++ before_backslash bs))) ≡ Some (with_backslash a o))
backslash-assigned l a p h bs b =
    let test = is_no_hash joined_byte in
    let us = units joined_byte (line_cells l) in
    let F = h.front ++ (h.equals ∷ []) in
    let T = alone bs ++ (Byte 92 ∷ []) ∷ [] in
    let before : before_value a ≡ F ++ h.gaps = h.before_is ∙ sym (append_assoc h.front (h.equals ∷ []) h.gaps) in
    let split : us ≡ F ++ (h.gaps ++ (a.value ++ (a.after ++ p.rest))) =
    parts-units l a a.value a.after p refl ∙ (ap (λ z. z ++ (a.value ++ (a.after ++ p.rest))) before ∙ append_assoc F h.gaps (a.value ++ (a.after ++ p.rest))) in
    let plain : EndsPlain joined_byte F = EndsPlain-append joined_byte h.front h.equals [] (equals-plain joined_byte h.equals h.equals_is) in
    let closed : is_closed joined_byte (concat F) ≡ true = EndsPlain-closed joined_byte (line_cells l) F (h.gaps ++ (a.value ++ (a.after ++ p.rest))) plain split in
    let again : units joined_byte (concat F ++ before_backslash bs) ≡ F ++ T =
    units-append joined_byte (concat F) (before_backslash bs) closed
    ∙ (ap (λ z. z ++ units joined_byte (before_backslash bs)) (units-first joined_byte (line_cells l) F (h.gaps ++ (a.value ++ (a.after ++ p.rest))) split) ∙ ap (λ z. F ++ z) (units-backslash bs b)) in
    let cut_is : cut_text joined_byte us ≡ F ++ (h.gaps ++ (a.value ++ a.after)) =
    let s : assignment_units a ≡ before_value a ++ (a.value ++ a.after) = simp append_assoc in
    sym p.is.whole ∙ (s ∙ (ap (λ z. z ++ (a.value ++ a.after)) before ∙ append_assoc F h.gaps (a.value ++ a.after))) in
    let old : Each test (F ++ (h.gaps ++ (a.value ++ a.after))) = subst (Each test) cut_is (leading-each test us) in
    let new : Each test (F ++ T) =
    Each-append test F T (Each-left test F (h.gaps ++ (a.value ++ a.after)) old)
    (Each-append test (alone bs) ((Byte 92 ∷ []) ∷ []) (gaps-no_hash (alone bs) (blank-alone_gaps bs b)) (refl, tt)) in
    let cut : cut_text joined_byte (F ++ T) ≡ F ++ T = ap (leading test) (sym (append-nil (F ++ T))) ∙ leading-append_all test (F ++ T) [] new tt in
    let k = h.again (alone bs) ((Byte 92 ∷ []) ∷ []) [] (blank-alone_gaps bs b) backslash-is_value in
    (k.0, ap (λ z. assignment joined_byte (cut_text joined_byte z)) again ∙ (ap (assignment joined_byte) (cut ∙ append_assoc h.front (h.equals ∷ []) T) ∙ k.1))

-- What stays of an assignment's line up to its value, if a fold comes last: one line, of the same assignment with a lone
-- backslash as its value.
record IsLeftLine (c : Context) (a : Assignment Cell) : Type 0 where
  operator : List (List Cell)
  one : OneLine (raw_text (concat (before_value a)))
  class : class_of c (raw_text (concat (before_value a))) ≡ Assign (with_backslash a operator) (prefix_set_by joined_byte (nat_lt 0 c.conditionals) (with_backslash a operator))

-- the class of a line of other cells, which begins with the same byte
class-of_cells : (c : Context) (led : Bool) (l m : List ℕ) (C : List Cell) (b : Assignment Cell) → l ≡ m → is_prefix_led c.prefix m ≡ led → line_cells m ≡ C
    → cells_class c led C ≡ plain_class joined_byte led (nat_lt 0 c.conditionals) (is_unreadable C) (units joined_byte C) → IsAssignLine C (units joined_byte C) b
    → class_of c l ≡ Assign b (prefix_set_by joined_byte (nat_lt 0 c.conditionals) b)
class-of_cells c led l m C b e h k also is =
    ap (class_of c) e ∙ (ap (λ z. cells_class c z (line_cells m)) h ∙ (ap (λ z. cells_class c led z) k ∙ (also ∙ assign-plain_class led (nat_lt 0 c.conditionals) C (units joined_byte C) b is)))

line-left : (c : Context) (l : List ℕ) (a : Assignment Cell) (sets : Option ℕ) (y : List ℕ) → class_of c l ≡ Assign a sets → raw_text (concat (before_value a)) ≡ y ++ 10 ∷ [] → IsLeftLine c a
line-left c l a sets y h n =
    let led = is_prefix_led c.prefix l in
    let r = class_at-assign led c.defines c.flag (nat_lt 0 c.conditionals) (line_cells l) (units joined_byte (line_cells l)) a sets h in
    let i = plain_class-assign led (nat_lt 0 c.conditionals) (line_cells l) (units joined_byte (line_cells l)) a sets r.here in
    left c l a y (assign_parts l a i) (assignment-has_equals joined_byte (cut_text joined_byte (units joined_byte (line_cells l))) a i.assigned)
    (or-left_false (has_stray (line_cells l)) _ i.readable) (λ C. r.also C (units joined_byte C)) n
  where
    left : (c : Context) (l : List ℕ) (a : Assignment Cell) (y : List ℕ) → (p : AssignParts l a) → (q : HasEquals joined_byte a) → has_stray (line_cells l) ≡ false
        → ((C : List Cell) → cells_class c (is_prefix_led c.prefix l) C ≡ plain_class joined_byte (is_prefix_led c.prefix l) (nat_lt 0 c.conditionals) (is_unreadable C) (units joined_byte C))
        → raw_text (concat (before_value a)) ≡ y ++ 10 ∷ [] → IsLeftLine c a
    left c l a y p q clean also n =
        let P = concat (before_value a) in
        let R = concat a.value ++ concat (a.after ++ p.rest) in
        let f = concat q.front in
        let F = f ++ Byte 61 ∷ [] in
        let G = concat q.gaps in
        let end = line_end_bytes (line_end l) in
        let front_is : concat (q.front ++ (q.equals ∷ [])) ≡ F = concat-append q.front (q.equals ∷ []) ∙ ap (λ z. f ++ concat (z ∷ [])) (equals-cell q.equals q.equals_is) in
        let cells_are : P ≡ F ++ G =
        ap concat (q.before_is ∙ sym (append_assoc q.front (q.equals ∷ []) q.gaps)) ∙ (concat-append (q.front ++ (q.equals ∷ [])) q.gaps ∙ ap (λ z. z ++ G) front_is) in
        let old : AreLineCells P = AreLineCells-left P R p.are_line_cells in
        let k = fold-left f G y (gaps-blank q.gaps q.are_gaps) (subst AreLineCells cells_are old) (sym (ap raw_text cells_are) ∙ n) in
        let C = F ++ before_backslash k.blanks in
        let m = raw_text C ++ line_end_bytes k.end in
        let text : raw_text P ≡ m = ap raw_text cells_are ∙ k.text in
        let b = cells-before a p.is.operator_ends in
        let s = some_raw P b.0 b.1 b.2 old in
        let line = line-of_cells C k.end [] s.0 s.1 k.are_line_cells k.apart tt (sym text ∙ s.2) in
        let whole : l ≡ raw_text P ++ (raw_text R ++ end) =
        sym (without_line_end-line_end l)
        ∙ (ap (λ z. z ++ end) (sym (raw_text-cells (without_line_end l)) ∙ (ap raw_text p.cells_are ∙ raw_text-append P R)) ∙ append_assoc (raw_text P) (raw_text R) end) in
        let same : is_prefix_led c.prefix m ≡ is_prefix_led c.prefix l =
        ap (is_prefix_led c.prefix) (sym text ∙ sym (append-nil (raw_text P))) ∙ (led-same c.prefix (raw_text P) [] (raw_text R ++ end) s.0 s.1 s.2 ∙ sym (ap (is_prefix_led c.prefix) whole)) in
        let g = backslash-assigned l a p q k.blanks k.are_blank in
        let assigned : assignment joined_byte (cut_text joined_byte (units joined_byte C)) ≡ Some (with_backslash a g.0) =
        ap (λ z. assignment joined_byte (cut_text joined_byte (units joined_byte (z ++ before_backslash k.blanks)))) (sym front_is) ∙ g.1 in
        let stray : has_stray F ≡ false = has_stray-left F G (subst (λ z. has_stray z ≡ false) cells_are (has_stray-left P R (subst (λ z. has_stray z ≡ false) p.cells_are clean))) in
        let can : is_unreadable C ≡ false =
        or_from (has_stray C) (has_bad_fold C) (has_stray-append F (before_backslash k.blanks) stray (backslash-no_stray k.blanks k.are_blank)) k.are_line_cells.clean.1 in
        let is : IsAssignLine C (units joined_byte C) (with_backslash a g.0) = record {
          filled = assignment-filled (cut_text joined_byte (units joined_byte C)) (with_backslash a g.0) assigned;
          readable = can;
          assigned = assigned;
        } in
        record {
          operator = g.0;
          one = subst OneLine (sym text) line.one;
          class = class-of_cells c (is_prefix_led c.prefix l) (raw_text P) m C (with_backslash a g.0) text same line.same_cells (also C) is;
        }

-- ---- the text

-- a text whose last byte is a line feed
line_feed-last : (f x : List ℕ) (b : ℕ) (r : List ℕ) → x ≡ b ∷ r → last_passes (λ b. b == 10) (f ++ x) ≡ true → (y : List ℕ) × (x ≡ y ++ 10 ∷ [])
line_feed-last f x b r s h = go (reverse x) refl
  where
    go : (q : List ℕ) → reverse x ≡ q → (y : List ℕ) × (x ≡ y ++ 10 ∷ [])
    go [] e = absurd (let none : x ≡ [] = sym (reverse-reverse x) ∙ ap reverse e in cc)
    go (c ∷ q) e =
        let w : x ≡ reverse q ++ c ∷ [] = last_of_reverse x c q e in
        let k : last_passes (λ b. b == 10) (f ++ x) ≡ (c == 10) =
        ap (λ z. last_passes (λ b. b == 10) (f ++ z)) w ∙ (ap (last_passes (λ b. b == 10)) (sym (append_assoc f (reverse q) (c ∷ []))) ∙ last-append (λ b. b == 10) (f ++ reverse q) c []) in
        (reverse q, w ∙ ap (λ z. reverse q ++ z ∷ []) (eqb-true c 10 (sym k ∙ h)))

is_empty-is : (x : List ℕ) → is_empty x ≡ true → x ≡ []
is_empty-is [] h = refl
is_empty-is (b ∷ x) h = cc

nothing-both : (a b : List ℕ) → a ++ b ≡ [] → (a ≡ []) × (b ≡ [])
nothing-both [] b h = (refl, h)
nothing-both (x ∷ a) b h = cc

nothing-no_end : (e : End) → line_end_bytes e ≡ [] → has_no_line_end e ≡ true
nothing-no_end ends.None h = refl
nothing-no_end ends.Lf h = cc
nothing-no_end ends.CrLf h = cc

-- an assignment's line without its value, if a part of a fold stays without its next line
set_value-left : (t : List ℕ) (A : List ClassedLine) (l : ClassedLine) (B : List ClassedLine) (a : Assignment Cell)
    → classed_lines t ≡ A ++ l ∷ B → l.class ≡ Assign a None → is_prefix_name (unit_text joined_byte a.name) ≡ false → leaves_fold_last t (set_value_span [] (length (text_of A)) a) ≡ true
    → IsLineReplaced (replaced 0 t (set_value_span [] (length (text_of A)) a ∷ [])) A B (item_with_value a (92 ∷ []))
set_value-left t A l B a h k f n =
    let c = context_of A in
    let L = line-in_text t A l B h in
    let M = line-emptied c l.bytes (bytes_of B) a None (L.class ∙ k) L.one L.ends in
    let P = concat (before_value a) in
    let Q = concat M.parts.rest in
    let e = line_end l.bytes in
    let T = text-emptied t A l B a Q h M.cells_are in
    let both = and_parts (last_passes (λ b. b == 10) (text_of A ++ raw_text P)) (is_empty (raw_text Q ++ (line_end_bytes e ++ text_of B))) (sym T.leaves ∙ n) in
    let b = cells-before a M.parts.is.operator_ends in
    let s = some_raw P b.0 b.1 b.2 (AreLineCells-left P (concat a.value ++ concat (a.after ++ M.parts.rest)) M.parts.are_line_cells) in
    let y = line_feed-last (text_of A) (raw_text P) s.0 s.1 s.2 both.0 in
    let none = nothing-both (raw_text Q) (line_end_bytes e ++ text_of B) (is_empty-is (raw_text Q ++ (line_end_bytes e ++ text_of B)) both.1) in
    let end = nothing-both (line_end_bytes e) (text_of B) none.1 in
    let below : B ≡ [] = last-line l.bytes B L.one (nothing-no_end e end.0) L.ends in
    let line = line-left c l.bytes a None y.0 (L.class ∙ k) y.1 in
    let m = with_backslash a line.operator in
    let class : class_of c (raw_text P) ≡ Assign m None = line.class ∙ ap (Assign m) (no_prefix-set (nat_lt 0 c.conditionals) m f) in
    let text : (raw_text P ++ raw_text Q) ++ line_end_bytes e ≡ raw_text P =
    ap (λ z. (raw_text P ++ raw_text Q) ++ z) end.0 ∙ (append-nil (raw_text P ++ raw_text Q) ∙ (ap (λ z. raw_text P ++ z) none.0 ∙ append-nil (raw_text P))) in
    let ends : EndsBefore (raw_text P) (bytes_of B) = subst (λ (z : List ClassedLine). EndsBefore (raw_text P) (bytes_of z)) (sym below) tt in
    replaced-same _ _ A B _ _ (sym (T.text ∙ ap (λ z. text_of A ++ (z ++ text_of B)) text)) refl
    (replaced-line t A l B (raw_text P) (Assign m None) (item_with_value a (92 ∷ [])) h line.one ends class (ap (context_after c) (sym k)) refl refl)

-- an assignment's line without its value
pub set_value-to_nothing : (t : List ℕ) (A : List ClassedLine) (l : ClassedLine) (B : List ClassedLine) (a : Assignment Cell) → classed_lines t ≡ A ++ l ∷ B → l.class ≡ Assign a None
    → is_prefix_name (unit_text joined_byte a.name) ≡ false
    → IsLineReplaced (replaced 0 t (set_value_span [] (length (text_of A)) a ∷ [])) A B (item_with_value a (value_set t [] (length (text_of A)) a))
set_value-to_nothing t A l B a h k f = go (leaves_fold_last t (set_value_span [] (length (text_of A)) a)) refl
  where
    go : (b : Bool) → leaves_fold_last t (set_value_span [] (length (text_of A)) a) ≡ b
        → IsLineReplaced (replaced 0 t (set_value_span [] (length (text_of A)) a ∷ [])) A B (item_with_value a (value_set t [] (length (text_of A)) a))
    go false e = replaced-same _ _ A B _ _ refl (ap (λ b. item_with_value a (cond b (92 ∷ []) [])) (sym e)) (set_value-emptied t A l B a h k f e)
    go true e = replaced-same _ _ A B _ _ refl (ap (λ b. item_with_value a (cond b (92 ∷ []) [])) (sym e)) (set_value-left t A l B a h k f e)

-- an assignment's line with another value, empty or not
pub set_value-replaced : (t : List ℕ) (A : List ClassedLine) (l : ClassedLine) (B : List ClassedLine) (a : Assignment Cell) (v : List ℕ) → classed_lines t ≡ A ++ l ∷ B → l.class ≡ Assign a None
    → is_prefix_name (unit_text joined_byte a.name) ≡ false → is_value v ≡ true
    → IsLineReplaced (replaced 0 t (set_value_span v (length (text_of A)) a ∷ [])) A B (item_with_value a (value_set t v (length (text_of A)) a))
set_value-replaced t A l B a [] h k f i = set_value-to_nothing t A l B a h k f
set_value-replaced t A l B a (b ∷ v) h k f i = set_value-line t A l B a b v h k f i
