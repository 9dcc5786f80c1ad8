-- `SetValue` to nothing: the line and the text without the value, and what they read as if no part of a fold stays without its
-- next line.
use Rattle.std.proofs.Common.{◌≡◌, refl, sym, ap, ◌∙◌, subst, ℕ, List, [], ◌∷◌, ◌++◌, Bool, true, false, not, ◌&&◌, ◌==◌, Option, None, length, take, drop, ◌+◌, arith, append_assoc, reverse, length-append}
use Rattle.std.proofs.lemmas.List.{append-nil, reverse-append, reverse-reverse}
use Rattle.std.proofs.Math.Seq.{take-append_seam, drop-append_seam}
use Rattle.std.specs.Prelude.{nat_lt}
use Rattle.mk_lines.specs.Lists.{concat, FirstFails}
use Rattle.mk_lines.proofs.on_lists.ListLemmas.{concat-append}
use Rattle.mk_lines.specs.Bytes.{ByteKind, byte_kind}
use Rattle.mk_lines.specs.Bytes.ByteKind.{LineFeed, CarriageReturn, Backslash, Blank, Ordinary}
use Rattle.mk_lines.proofs.on_lists.ByteLemmas.{line_feed-byte, carriage_return-byte, backslash-byte}
use Rattle.mk_lines.specs.PhysicalLines.{line_end, line_end_bytes, without_line_end}
use Rattle.mk_lines.specs.LogicalLines.{has_no_line_end, is_continued, ends_line}
use Rattle.mk_lines.specs.declared.ends.End.{End}
use Rattle.mk_lines.specs.declared.ends.End.TheVariants as ends
use Rattle.mk_lines.specs.Cells.{Cell, Byte, Fold, LfEnd, CrLfEnd, joined_byte, raw_text, cells, line_cells}
use Rattle.mk_lines.specs.CellFaults.{has_stray, is_stray, is_stray_by}
use Rattle.mk_lines.proofs.on_cells.CellLemmas.{cells-append, raw_text-append, raw_text-cells}
use Rattle.mk_lines.proofs.on_lines.LineLemmas.{OneLine, EndsBefore}
use Rattle.mk_lines.proofs.on_lines.LineEndLemmas.{KeepsApart, FirstIsNot, Ends-ends_line, without_line_end-line_end}
use Rattle.mk_lines.proofs.on_cells.LineOfCells.{is_reset, is_reset_kind}
use Rattle.mk_lines.proofs.on_cells.LineCells.{AreLineCells, AreLineCells-left, AreLineCells-right, AreLineCells-cells, KeepsApart-tail, KeepsApart-last, line-keeps_apart, one_line-not_empty}
use Rattle.mk_lines.proofs.on_cells.CellsReplaced.{IsSolidTail, EndsReset, removed-are_line_cells, cells-removed}
use Rattle.mk_lines.specs.Units.{units, byte_mark}
use Rattle.mk_lines.specs.Units.Mark.{Unmarked}
use Rattle.mk_lines.proofs.on_units.UnitLemmas.{EndsPlain, EndsPlain-split}
use Rattle.mk_lines.specs.Pieces.{replaced}
use Rattle.mk_lines.proofs.on_lists.BoolLemmas.{or-left_false}
use Rattle.mk_class.specs.ListTests.{is_empty, last_passes}
use Rattle.mk_class.specs.Texts.{unit_text}
use Rattle.mk_class.specs.Symbols.{Symbol, byte_symbol, is_hash, is_hash_symbol}
use Rattle.mk_class.specs.Symbols.Symbol.{Hash, Colon, Semicolon, Equals, Plus, Question, Exclamation, Bar, Ampersand, NoSymbol}
use Rattle.mk_class.proofs.on_symbols.SymbolLemmas.{byte_symbol-byte}
use Rattle.mk_class.specs.CutTexts.{is_no_hash}
use Rattle.mk_class.specs.Assignments.{Assignment, before_value}
use Rattle.mk_class.proofs.on_assignments.AssignmentLineLemmas.{AssignParts, assign_parts}
use Rattle.mk_class.specs.RecipePrefix.{is_prefix_led, is_prefix_name}
use Rattle.mk_class.specs.Classes.Class.{Assign}
use Rattle.mk_class.specs.Contexts.{Context}
use Rattle.mk_class.specs.ClassTable.{class_of}
use Rattle.mk_class.proofs.on_classes.ClassLemmas.{plain_class-assign, class_at-assign, has_stray-left, has_stray-right, readable-are_line_cells}
use Rattle.mk_class.specs.ClassedLines.{ClassedLine, classed_lines}
use Rattle.mk_class.specs.PartOffsets.{raw_width}
use Rattle.mk_tree.specs.Documents.{text_of, context_of}
use Rattle.mk_tree.proofs.on_documents.LinesInText.{line-in_text, bytes_of}
use Rattle.mk_edit_language.specs.ValueChanges.{set_value_span, value_start, blanks_end}
use Rattle.mk_edit_language.specs.Changes.{item_with_value, leaves_fold_last}
use Rattle.mk_edit_language.proofs.on_values.ValueLines.{IsValue, IsValueLine, with_cells, cells_with, line_of, parts-cells, value-line_of, line_of-some}
use Rattle.mk_edit_language.proofs.on_values.FoundAssignments.{no_prefix-set}
use Rattle.mk_edit_language.proofs.on_lines.LineReplaced.{IsLineReplaced, replaced-same}
use Rattle.mk_edit_language.proofs.on_values.ValueEdits.{text-replaced_in_line, value-replaced}

-- ---- what stays after the value

hash_byte : (b : ℕ) → is_hash_symbol (byte_symbol b) ≡ true → b ≡ 35
hash_byte b h = byte_symbol-byte b Hash (λ x. cc) (go (byte_symbol b) h)
  where
    go : (s : Symbol) → is_hash_symbol s ≡ true → s ≡ Hash
    go Hash e = refl
    go Colon e = cc
    go Semicolon e = cc
    go Equals e = cc
    go Plus e = cc
    go Question e = cc
    go Exclamation e = cc
    go Bar e = cc
    go Ampersand e = cc
    go NoSymbol e = cc

hash-solid : (rest : List (List Cell)) → FirstFails (is_no_hash joined_byte) rest → IsSolidTail (concat rest)
hash-solid [] h = tt
hash-solid (u ∷ us) h = go u (is (is_hash joined_byte u) h)
  where
    is : (c : Bool) → not c ≡ false → c ≡ true
    is true e = refl
    is false e = cc

    go : (u : List Cell) → is_hash joined_byte u ≡ true → IsSolidTail (concat (u ∷ us))
    go [] e = cc
    go (Byte b ∷ []) e = let k : b ≡ 35 = hash_byte b e in (rw k refl, rw k refl)
    go (Fold r ∷ []) e = cc
    go (LfEnd r ∷ []) e = cc
    go (CrLfEnd r ∷ []) e = cc
    go (c ∷ d ∷ u) e = cc

-- ---- what stays before the value

reset-unmarked : (b : ℕ) → byte_mark b ≡ Unmarked → is_stray (Byte b) ≡ false → is_reset_kind (byte_kind b) ≡ true
reset-unmarked b m h = go (byte_kind b) refl h
  where
    go : (k : ByteKind) → byte_kind b ≡ k → is_stray_by k (b == 0) ≡ false → is_reset_kind k ≡ true
    go LineFeed e s = cc
    go CarriageReturn e s = cc
    go Backslash e s = absurd (let x : b ≡ 92 = backslash-byte b e in let y : byte_mark 92 ≡ Unmarked = ap byte_mark (sym x) ∙ m in cc)
    go Blank e s = refl
    go Ordinary e s = refl

cell-reset : (c : Cell) → byte_mark (joined_byte c) ≡ Unmarked → is_stray c ≡ false → is_reset c ≡ true
cell-reset (Byte b) m h = reset-unmarked b m h
cell-reset (Fold r) m h = refl
cell-reset (LfEnd r) m h = cc
cell-reset (CrLfEnd r) m h = cc

pub before-resets : (a : Assignment Cell) → EndsPlain joined_byte a.operator → has_stray (concat (before_value a)) ≡ false → EndsReset (concat (before_value a))
before-resets a p h =
    let s = EndsPlain-split joined_byte a.operator p in
    let F = a.before ++ (a.name ++ s.0) in
    let e : before_value a ≡ F ++ ((s.1 ∷ []) ∷ []) = ap (λ z. a.before ++ (a.name ++ z)) s.2 ∙ simp append_assoc in
    let c : concat (before_value a) ≡ concat F ++ s.1 ∷ [] = ap concat e ∙ concat-append F ((s.1 ∷ []) ∷ []) in
    let stray : has_stray (s.1 ∷ []) ≡ false = has_stray-right (concat F) (s.1 ∷ []) (subst (λ z. has_stray z ≡ false) c h) in
    record { front = concat F; last = s.1; is = c; resets = cell-reset s.1 s.3 (or-left_false (is_stray s.1) false stray) }

-- ---- the line end

-- lists that are the same and end in one element each, end in the same
pub last-same : {A : Type 0} (a b : List A) (x y : A) → a ++ x ∷ [] ≡ b ++ y ∷ [] → x ≡ y
last-same a b x y h =
    let e : x ∷ reverse a ≡ y ∷ reverse b = sym (reverse-append a (x ∷ [])) ∙ (ap reverse h ∙ reverse-append b (y ∷ [])) in
    cc

-- the last element by itself, where the list read backwards begins with it
pub last_of_reverse : (x : List ℕ) (b : ℕ) (y : List ℕ) → reverse x ≡ b ∷ y → x ≡ reverse y ++ b ∷ []
last_of_reverse x b y h = sym (reverse-reverse x) ∙ (ap reverse h ∙ reverse-append (b ∷ []) y)

-- cells whose last is a fold have no carriage return at their end
fold-no_carriage_return : (P front : List Cell) (r : List ℕ) → AreLineCells P → P ≡ front ++ Fold r ∷ [] → FirstIsNot CarriageReturn (reverse (raw_text P))
fold-no_carriage_return P front r g h = go (reverse (raw_text P)) refl
  where
    go : (x : List ℕ) → reverse (raw_text P) ≡ x → FirstIsNot CarriageReturn x
    go [] e = tt
    go (b ∷ y) e = λ k.
        let n : b ≡ 13 = carriage_return-byte b k in
        let w : raw_text P ≡ reverse y ++ 13 ∷ [] = last_of_reverse (raw_text P) b y e ∙ ap (λ z. reverse y ++ z ∷ []) n in
        let c : P ≡ cells (reverse y) ++ Byte 13 ∷ [] = sym (AreLineCells-cells P g) ∙ (ap cells w ∙ cells-append (reverse y) (13 ∷ []) refl) in
        let s : Fold r ≡ Byte 13 = last-same front (cells (reverse y)) (Fold r) (Byte 13) (sym h ∙ c) in
        cc

-- the line end stays apart from the cells that stay, unless the line has no line end and these cells end in a line feed
removed-keeps_apart : (e : End) (P W Q : List Cell) → AreLineCells (P ++ (W ++ Q)) → IsSolidTail Q → EndsReset P → KeepsApart e (reverse (raw_text (P ++ (W ++ Q))))
    → (has_no_line_end e ≡ true → Q ≡ [] → FirstIsNot LineFeed (reverse (raw_text P))) → KeepsApart e (reverse (raw_text (P ++ Q)))
removed-keeps_apart e P W (d ∷ D) g t r k free =
    let tail : AreLineCells (d ∷ D) = AreLineCells-right W (d ∷ D) (AreLineCells-right P (W ++ (d ∷ D)) g) in
    KeepsApart-tail e (P ++ W) P d D t.1 tail.are_cells.0 (subst (λ z. KeepsApart e (reverse (raw_text z))) (sym (append_assoc P W (d ∷ D))) k)
removed-keeps_apart e P W [] g t r k free = subst (λ z. KeepsApart e (reverse (raw_text z))) (sym (append-nil P)) (by_last r.last r.is r.resets e (λ x. free x refl))
  where
    by_last : (c : Cell) → P ≡ r.front ++ c ∷ [] → is_reset c ≡ true → (e : End) → (has_no_line_end e ≡ true → FirstIsNot LineFeed (reverse (raw_text P))) → KeepsApart e (reverse (raw_text P))
    by_last (Byte b) h s e f = subst (λ z. KeepsApart e (reverse (raw_text z))) (sym h) (KeepsApart-last e r.front b s)
    by_last (Fold x) h s ends.None f = f refl
    by_last (Fold x) h s ends.Lf f = fold-no_carriage_return P r.front x (AreLineCells-left P (W ++ []) g) h
    by_last (Fold x) h s ends.CrLf f = tt
    by_last (LfEnd x) h s e f = absurd (let z : false ≡ true = s in cc)
    by_last (CrLfEnd x) h s e f = absurd (let z : false ≡ true = s in cc)

-- ---- the line

no-value : IsValue [] []
no-value = record { closed = refl; no_hash = tt; are_value = record { begins = tt; ends = tt; blanks_after = tt; empty = λ e. refl }; no_stray = refl }

-- what holds for the line without its value
pub record IsEmptiedLine (c : Context) (l : List ℕ) (below : List (List ℕ)) (a : Assignment Cell) : Type 0 where
  pub parts : AssignParts l a
  pub cells_are : line_cells l ≡ concat (before_value a) ++ (concat (a.value ++ a.after) ++ concat parts.rest)
  pub line : (has_no_line_end (line_end l) ≡ true → concat parts.rest ≡ [] → FirstIsNot LineFeed (reverse (raw_text (concat (before_value a))))) → IsValueLine c l below a [] [] parts.rest

-- each assignment's line without its value
pub line-emptied : (c : Context) (l : List ℕ) (below : List (List ℕ)) (a : Assignment Cell) (sets : Option ℕ) → class_of c l ≡ Assign a sets → OneLine l → EndsBefore l below → IsEmptiedLine c l below a
line-emptied c l below a sets h o n =
    let led = is_prefix_led c.prefix l in
    let r = class_at-assign led c.defines c.flag (nat_lt 0 c.conditionals) (line_cells l) (units joined_byte (line_cells l)) a sets h in
    let i = plain_class-assign led (nat_lt 0 c.conditionals) (line_cells l) (units joined_byte (line_cells l)) a sets r.here in
    let p = assign_parts l a i in
    let X = a.value ++ a.after in
    let P = concat (before_value a) in
    let W = concat X in
    let Q = concat p.rest in
    let x : a.value ++ a.after ≡ X ++ [] = sym (append-nil X) in
    let cells : line_cells l ≡ P ++ (W ++ Q) = parts-cells l a X [] p x in
    let old : AreLineCells (P ++ (W ++ Q)) = subst AreLineCells cells (readable-are_line_cells l i.readable) in
    let stray : has_stray P ≡ false = has_stray-left P (W ++ Q) (subst (λ z. has_stray z ≡ false) cells (or-left_false (has_stray (line_cells l)) _ i.readable)) in
    let solid = hash-solid p.rest p.stops in
    let resets = before-resets a p.is.operator_ends stray in
    let new : AreLineCells (P ++ Q) = removed-are_line_cells P W Q old solid in
    let keeps : KeepsApart (line_end l) (reverse (raw_text (P ++ (W ++ Q)))) = subst (λ z. KeepsApart (line_end l) (reverse (raw_text z))) cells (line-keeps_apart l) in
    let s = line_of-some l a [] [] p (line_end_bytes (line_end l)) new in
    record {
      parts = p;
      cells_are = cells;
      line = λ free.
          value-line_of c l below a sets [] X [] h p x no-value new
          (cells-removed l below P W Q s.0 s.1 cells old solid resets (removed-keeps_apart (line_end l) P W Q old solid resets keeps free) o n s.2);
    }

-- ---- the text

-- what stands before the last element does not matter
pub last-append : (p : ℕ → Bool) (a : List ℕ) (x : ℕ) (b : List ℕ) → last_passes p (a ++ x ∷ b) ≡ last_passes p (x ∷ b)
last-append p [] x b = refl
last-append p (y ∷ []) x b = refl
last-append p (y ∷ z ∷ a) x b = last-append p (z ∷ a) x b

-- a text whose last byte is no line feed
no_line_feed-last : (f x : List ℕ) → last_passes (λ b. b == 10) (f ++ x) ≡ false → FirstIsNot LineFeed (reverse x)
no_line_feed-last f x h = go (reverse x) refl
  where
    go : (r : List ℕ) → reverse x ≡ r → FirstIsNot LineFeed r
    go [] e = tt
    go (b ∷ y) e = λ k.
        let n : b ≡ 10 = line_feed-byte b k in
        let w : x ≡ reverse y ++ 10 ∷ [] = last_of_reverse x b y e ∙ ap (λ z. reverse y ++ z ∷ []) n in
        let s : last_passes (λ b. b == 10) (f ++ x) ≡ true =
        ap (λ z. last_passes (λ b. b == 10) (f ++ z)) w ∙ (ap (last_passes (λ b. b == 10)) (sym (append_assoc f (reverse y) (10 ∷ []))) ∙ last-append (λ b. b == 10) (f ++ reverse y) 10 []) in
        let q : true ≡ false = sym s ∙ h in cc

-- a line without line end is the last
pub last-line : (l : List ℕ) (B : List ClassedLine) → OneLine l → has_no_line_end (line_end l) ≡ true → EndsBefore l (bytes_of B) → B ≡ []
last-line l [] o n e = refl
last-line l (x ∷ B) o n e = let s = one_line-not_empty l o in absurd (go l s.0 s.1 s.2 n e)
  where
    both : (u v : Bool) → (not u && not v) ≡ true → u ≡ true → ⊥
    both true v x y = cc
    both false v x y = cc

    go : (l : List ℕ) (b : ℕ) (r : List ℕ) → l ≡ b ∷ r → has_no_line_end (line_end l) ≡ true → EndsBefore l (bytes_of (x ∷ B)) → ⊥
    go l b r h n e = both (has_no_line_end (line_end (b ∷ r))) (is_continued (b ∷ r)) (ap ends_line (sym h) ∙ Ends-ends_line l e) (ap (λ z. has_no_line_end (line_end z)) (sym h) ∙ n)

no_end-nothing : (e : End) → has_no_line_end e ≡ true → line_end_bytes e ≡ []
no_end-nothing ends.None h = refl
no_end-nothing ends.Lf h = cc
no_end-nothing ends.CrLf h = cc

take-front : (t p r : List ℕ) (n : ℕ) → t ≡ p ++ r → n ≡ length p → take n t ≡ p
take-front t p r n h i = rw (i, h) (take-append_seam p r)

drop-front : (t p w r : List ℕ) (n : ℕ) → t ≡ p ++ (w ++ r) → n ≡ length (p ++ w) → drop n t ≡ r
drop-front t p w r n h i = rw (i, h, ← append_assoc p w r) (drop-append_seam (p ++ w) r)

-- the text without the value of an assignment, before whose comment these cells stand
pub record IsEmptiedText (t : List ℕ) (A : List ClassedLine) (l : ClassedLine) (B : List ClassedLine) (a : Assignment Cell) (Q : List Cell) : Type 0 where
  pub text : replaced 0 t (set_value_span [] (length (text_of A)) a ∷ []) ≡ text_of A ++ (((raw_text (concat (before_value a)) ++ raw_text Q) ++ line_end_bytes (line_end l.bytes)) ++ text_of B)
  pub leaves : leaves_fold_last t (set_value_span [] (length (text_of A)) a)
      ≡ (last_passes (λ b. b == 10) (text_of A ++ raw_text (concat (before_value a))) && is_empty (raw_text Q ++ (line_end_bytes (line_end l.bytes) ++ text_of B)))

-- each assignment's line is such a line in the text
pub text-emptied : (t : List ℕ) (A : List ClassedLine) (l : ClassedLine) (B : List ClassedLine) (a : Assignment Cell) (Q : List Cell) → classed_lines t ≡ A ++ l ∷ B
    → line_cells l.bytes ≡ concat (before_value a) ++ (concat (a.value ++ a.after) ++ Q) → IsEmptiedText t A l B a Q
text-emptied t A l B a Q h cells_are =
    let at = length (text_of A) in
    let P = concat (before_value a) in
    let W = concat (a.value ++ a.after) in
    let e = line_end l.bytes in
    let tail = raw_text Q ++ (line_end_bytes e ++ text_of B) in
    let w : raw_text W ≡ raw_text (concat a.value) ++ raw_text (concat a.after) = ap raw_text (concat-append a.value a.after) ∙ raw_text-append (concat a.value) (concat a.after) in
    let size : length (raw_text W) ≡ raw_width a.value + raw_width a.after = ap length w ∙ length-append (raw_text (concat a.value)) (raw_text (concat a.after)) in
    let stop : blanks_end at a ≡ value_start at a + length (raw_text W) = omega (arith, size) in
    let line_is : l.bytes ≡ (raw_text P ++ (raw_text W ++ raw_text Q)) ++ line_end_bytes e =
    sym (without_line_end-line_end l.bytes)
    ∙ ap (λ z. z ++ line_end_bytes e) (sym (raw_text-cells (without_line_end l.bytes)) ∙ (ap raw_text cells_are ∙ (raw_text-append P (W ++ Q) ∙ ap (λ z. raw_text P ++ z) (raw_text-append W Q)))) in
    let whole : t ≡ (text_of A ++ raw_text P) ++ (raw_text W ++ tail) = (line-in_text t A l B h).text ∙ (ap (λ z. text_of A ++ (z ++ text_of B)) line_is ∙ simp append_assoc) in
    let start_is : value_start at a ≡ length (text_of A ++ raw_text P) = sym (length-append (text_of A) (raw_text P)) in
    let stop_is : blanks_end at a ≡ length ((text_of A ++ raw_text P) ++ raw_text W) = stop ∙ (ap (λ z. z + length (raw_text W)) start_is ∙ sym (length-append (text_of A ++ raw_text P) (raw_text W))) in
    let front : take (value_start at a) t ≡ text_of A ++ raw_text P = take-front t (text_of A ++ raw_text P) (raw_text W ++ tail) (value_start at a) whole start_is in
    let back : drop (blanks_end at a) t ≡ tail = drop-front t (text_of A ++ raw_text P) (raw_text W) tail (blanks_end at a) whole stop_is in
    record {
      text = text-replaced_in_line t A l B P W Q [] (value_start at a) (blanks_end at a) h cells_are refl stop;
      leaves = ap (λ z. last_passes (λ b. b == 10) z && is_empty (drop (blanks_end at a) t)) front ∙ ap (λ z. last_passes (λ b. b == 10) (text_of A ++ raw_text P) && is_empty z) back;
    }

-- an assignment's line without its value, if no part of a fold stays without its next line
pub set_value-emptied : (t : List ℕ) (A : List ClassedLine) (l : ClassedLine) (B : List ClassedLine) (a : Assignment Cell)
    → classed_lines t ≡ A ++ l ∷ B → l.class ≡ Assign a None → is_prefix_name (unit_text joined_byte a.name) ≡ false → leaves_fold_last t (set_value_span [] (length (text_of A)) a) ≡ false
    → IsLineReplaced (replaced 0 t (set_value_span [] (length (text_of A)) a ∷ [])) A B (item_with_value a [])
set_value-emptied t A l B a h k f n =
    let c = context_of A in
    let L = line-in_text t A l B h in
    let M = line-emptied c l.bytes (bytes_of B) a None (L.class ∙ k) L.one L.ends in
    let P = concat (before_value a) in
    let Q = concat M.parts.rest in
    let e = line_end l.bytes in
    let T = text-emptied t A l B a Q h M.cells_are in
    let m = line_of (cells_with a [] [] M.parts.rest) (line_end_bytes e) in
    let free : has_no_line_end e ≡ true → Q ≡ [] → FirstIsNot LineFeed (reverse (raw_text P)) = λ x y.
    let b : B ≡ [] = last-line l.bytes B L.one x L.ends in
    let z : raw_text Q ++ (line_end_bytes e ++ text_of B) ≡ [] = ap (λ q. raw_text q ++ (line_end_bytes e ++ text_of B)) y ∙ (ap (λ q. q ++ text_of B) (no_end-nothing e x) ∙ ap text_of b) in
    let g : last_passes (λ b. b == 10) (text_of A ++ raw_text P) ≡ false =
    go (last_passes (λ b. b == 10) (text_of A ++ raw_text P)) (subst (λ q. (last_passes (λ b. b == 10) (text_of A ++ raw_text P) && is_empty q) ≡ false) z (sym T.leaves ∙ n)) in
    no_line_feed-last (text_of A) (raw_text P) g in
    let line = M.line free in
    let bytes : (raw_text P ++ raw_text Q) ++ line_end_bytes e ≡ m = ap (λ z. z ++ line_end_bytes e) (sym (raw_text-append P Q)) in
    replaced-same _ _ A B _ _ (sym (T.text ∙ ap (λ z. text_of A ++ (z ++ text_of B)) bytes)) refl
    (value-replaced t A l B a m [] [] [] h k line.one line.ends
    (line.class ∙ ap (Assign (with_cells a [] [])) (no_prefix-set (nat_lt 0 c.conditionals) (with_cells a [] []) f)) refl)
  where
    go : (b : Bool) → (b && true) ≡ false → b ≡ false
    go true e = cc
    go false e = refl
