-- An assignment's line with another value is one line, of the same assignment with that value.
use Rattle.std.proofs.Common.{◌≡◌, refl, sym, ap, ◌∙◌, subst, ℕ, List, [], ◌∷◌, ◌++◌, map, Bool, true, false, not, append_assoc, Option, Some}
use Rattle.std.specs.Prelude.{nat_lt}
use Rattle.mk_lines.specs.Lists.{concat, leading, Each, FirstFails}
use Rattle.mk_lines.proofs.on_lists.ListLemmas.{concat-append, Each-append, Each-left, Each-right, leading-after_leading, leading-each, after_leading-first_fails, leading-append_all}
use Rattle.mk_lines.specs.Bytes.{ByteKind, byte_kind, is_blank_kind}
use Rattle.mk_lines.specs.Bytes.ByteKind.{LineFeed, CarriageReturn, Backslash, Blank, Ordinary}
use Rattle.mk_lines.specs.PhysicalLines.{line_end, line_end_bytes, without_line_end}
use Rattle.mk_lines.specs.Cells.{Cell, Byte, Fold, LfEnd, CrLfEnd, joined_byte, raw_bytes, raw_text, line_cells}
use Rattle.mk_lines.proofs.on_cells.CellLemmas.{IsCell, raw_text-append, raw_text-cells}
use Rattle.mk_lines.proofs.on_lines.LineLemmas.{OneLine, EndsBefore}
use Rattle.mk_lines.proofs.on_lines.LineEndLemmas.{without_line_end-line_end}
use Rattle.mk_lines.proofs.on_cells.LineOfCells.{is_reset, is_reset_kind}
use Rattle.mk_lines.proofs.on_cells.LineCells.{AreLineCells, AreLineCells-left, IsLineOf}
use Rattle.mk_lines.proofs.on_cells.CellsReplaced.{IsSafeTail, cells-replaced, replaced-are_line_cells}
use Rattle.mk_lines.specs.Units.{units}
use Rattle.mk_lines.proofs.on_units.UnitLemmas.{concat-units, EndsPlain, EndsPlain-split}
use Rattle.mk_lines.specs.Words.{is_gap}
use Rattle.mk_class.specs.Symbols.{byte_symbol, is_hash, is_hash_symbol}
use Rattle.mk_class.specs.Symbols.Symbol.{Hash}
use Rattle.mk_class.proofs.on_symbols.SymbolLemmas.{byte_symbol-byte, hash_symbol-is}
use Rattle.mk_class.specs.CutTexts.{cut_text, comment, is_no_hash}
use Rattle.mk_class.specs.Assignments.{Assignment, assignment, before_value}
use Rattle.mk_class.proofs.on_assignments.AssignmentsWhole.{IsAssignment, assignment-is, assignment_units, units-value_replaced}
use Rattle.mk_class.proofs.on_assignments.ValueLemmas.{IsValueText, value-are_value}
use Rattle.mk_class.specs.Classes.{Class}
use Rattle.mk_class.specs.Classes.Class.{Assign}
use Rattle.mk_class.specs.RecipePrefix.{is_prefix_led, prefix_set_by}
use Rattle.mk_class.specs.Contexts.{Context}
use Rattle.mk_class.specs.ClassTable.{class_of, class_at, is_unreadable}
use Rattle.mk_class.proofs.on_classes.ClassLemmas.{IsAssignLine, plain_class-assign, assign-plain_class, class_at-assign, readable-are_line_cells, readable-replaced, assignment-filled}

-- ---- what stands before and after a value

some_bytes : (c : Cell) → IsCell c → (x : ℕ) × (y : List ℕ) × (raw_bytes c ≡ x ∷ y)
some_bytes (Byte b) v = (b, [], refl)
some_bytes (Fold []) v = absurd (let g : [] ≡ Fold [] ∷ [] = v in cc)
some_bytes (Fold (b ∷ r)) v = (b, r, refl)
some_bytes (LfEnd []) v = absurd (let g : [] ≡ LfEnd [] ∷ [] = v in cc)
some_bytes (LfEnd (b ∷ r)) v = (b, r, refl)
some_bytes (CrLfEnd []) v = absurd (let g : [] ≡ CrLfEnd [] ∷ [] = v in cc)
some_bytes (CrLfEnd (b ∷ r)) v = (b, r, refl)

-- cells of a line have raw bytes
pub some_raw : (cs : List Cell) (d : Cell) (D : List Cell) → cs ≡ d ∷ D → AreLineCells cs → (x : ℕ) × (y : List ℕ) × (raw_text cs ≡ x ∷ y)
some_raw [] d D e h = cc
some_raw (c ∷ cs) d D e h = let s = some_bytes c h.are_cells.0 in (s.0, s.1 ++ raw_text cs, ap (λ z. z ++ raw_text cs) s.2)

pub some_cell : (a b : List Cell) (x : Cell) → (d : Cell) × (D : List Cell) × (a ++ x ∷ b ≡ d ∷ D)
some_cell [] b x = (x, b, refl)
some_cell (c ∷ a) b x = (c, a ++ x ∷ b, refl)

-- there is a unit before a value
pub cells-before : (a : Assignment Cell) → EndsPlain joined_byte a.operator → (d : Cell) × (D : List Cell) × (concat (before_value a) ≡ d ∷ D)
cells-before a p =
    let s = EndsPlain-split joined_byte a.operator p in
    let F = a.before ++ (a.name ++ s.0) in
    let e : before_value a ≡ F ++ ((s.1 ∷ []) ∷ []) = ap (λ z. a.before ++ (a.name ++ z)) s.2 ∙ simp append_assoc in
    let c : concat (before_value a) ≡ concat F ++ s.1 ∷ [] = ap concat e ∙ concat-append F ((s.1 ∷ []) ∷ []) in
    let k = some_cell (concat F) [] s.1 in
    (k.0, k.1, c ∙ k.2)

-- whether a line begins with the prefix does not depend on what follows its first byte
pub led-same : (prefix : ℕ) (a p q : List ℕ) (x : ℕ) (y : List ℕ) → a ≡ x ∷ y → is_prefix_led prefix (a ++ p) ≡ is_prefix_led prefix (a ++ q)
led-same prefix [] p q x y h = cc
led-same prefix (z ∷ a) p q x y h = refl

blank-reset : (b : ℕ) → is_blank_kind (byte_kind b) ≡ true → is_reset_kind (byte_kind b) ≡ true
blank-reset b h = go (byte_kind b) h
  where
    go : (k : ByteKind) → is_blank_kind k ≡ true → is_reset_kind k ≡ true
    go LineFeed e = cc
    go CarriageReturn e = cc
    go Backslash e = cc
    go Blank e = refl
    go Ordinary e = cc

pub gap_cell-reset : (c : Cell) → is_blank_kind (byte_kind (joined_byte c)) ≡ true → is_reset c ≡ true
gap_cell-reset (Byte b) h = blank-reset b h
gap_cell-reset (Fold r) h = refl
gap_cell-reset (LfEnd r) h = cc
gap_cell-reset (CrLfEnd r) h = cc

hash_cell-reset : (c : Cell) → is_hash_symbol (byte_symbol (joined_byte c)) ≡ true → is_reset c ≡ true
hash_cell-reset (Byte b) h = rw (byte_symbol-byte b Hash (λ x. cc) (hash_symbol-is (byte_symbol b) h)) refl
hash_cell-reset (Fold r) h = refl
hash_cell-reset (LfEnd r) h = cc
hash_cell-reset (CrLfEnd r) h = cc

gap-safe : (u : List Cell) (us : List (List Cell)) → is_gap joined_byte u ≡ true → IsSafeTail (concat (u ∷ us))
gap-safe [] us h = cc
gap-safe (c ∷ []) us h = gap_cell-reset c h
gap-safe (c ∷ d ∷ u) us h = cc

hash-safe : (u : List Cell) (us : List (List Cell)) → is_no_hash joined_byte u ≡ false → IsSafeTail (concat (u ∷ us))
hash-safe u us h = go u (is-hash (is_hash joined_byte u) h)
  where
    is-hash : (c : Bool) → not c ≡ false → c ≡ true
    is-hash true e = refl
    is-hash false e = cc

    go : (u : List Cell) → is_hash joined_byte u ≡ true → IsSafeTail (concat (u ∷ us))
    go [] e = cc
    go (c ∷ []) e = hash_cell-reset c e
    go (c ∷ d ∷ u) e = cc

-- what follows a value begins with a blank, a fold or a comment
pub safe-after : (after rest : List (List Cell)) → Each (is_gap joined_byte) after → FirstFails (is_no_hash joined_byte) rest → IsSafeTail (concat (after ++ rest))
safe-after [] [] g s = tt
safe-after [] (u ∷ rest) g s = hash-safe u rest s
safe-after (u ∷ after) rest g s = gap-safe u (after ++ rest) g.0

-- ---- the parts of the line

-- the parts of a line that is an assignment: the units of the assignment and the comment, and their cells
pub record AssignParts (l : List ℕ) (a : Assignment Cell) : Type 0 where
  pub rest : List (List Cell)
  pub units_are : units joined_byte (line_cells l) ≡ cut_text joined_byte (units joined_byte (line_cells l)) ++ rest
  pub cells_are : line_cells l ≡ concat (before_value a) ++ (concat a.value ++ concat (a.after ++ rest))
  pub stops : FirstFails (is_no_hash joined_byte) rest
  pub are_line_cells : AreLineCells (concat (before_value a) ++ (concat a.value ++ concat (a.after ++ rest)))
  pub is : IsAssignment joined_byte (cut_text joined_byte (units joined_byte (line_cells l))) a

-- each line that is an assignment has such parts
pub assign_parts : (l : List ℕ) (a : Assignment Cell) → IsAssignLine (line_cells l) (units joined_byte (line_cells l)) a → AssignParts l a
assign_parts l a h =
    let us = units joined_byte (line_cells l) in
    let is = assignment-is joined_byte (cut_text joined_byte us) a h.assigned in
    let R = comment joined_byte us in
    let e : us ≡ cut_text joined_byte us ++ R = sym (leading-after_leading (is_no_hash joined_byte) us) in
    let s : assignment_units a ++ R ≡ before_value a ++ (a.value ++ (a.after ++ R)) = simp append_assoc in
    let w : us ≡ before_value a ++ (a.value ++ (a.after ++ R)) = e ∙ (ap (λ z. z ++ R) (sym is.whole) ∙ s) in
    let c : line_cells l ≡ concat (before_value a) ++ (concat a.value ++ concat (a.after ++ R)) =
    sym (concat-units joined_byte (line_cells l)) ∙ (ap concat w ∙ (concat-append (before_value a) (a.value ++ (a.after ++ R)) ∙ ap (λ z. concat (before_value a) ++ z) (concat-append a.value (a.after ++ R)))) in
    record {
      rest = R;
      units_are = e;
      cells_are = c;
      stops = after_leading-first_fails (is_no_hash joined_byte) us;
      are_line_cells = subst AreLineCells c (readable-are_line_cells l h.readable);
      is = is;
    }

-- ---- the new line

-- the assignment with the units of a text as its value
abbrev pub with_text : Assignment Cell → List ℕ → Assignment Cell
with_text a v = record a { value = units joined_byte (map Byte v) }

-- the line with the value replaced by a text
abbrev pub line_with : (a : Assignment Cell) → (rest : List (List Cell)) → (v end : List ℕ) → List ℕ
line_with a rest v end = (raw_text (concat (before_value a)) ++ (v ++ raw_text (concat (a.after ++ rest)))) ++ end

new-assign_line : (l : List ℕ) (a : Assignment Cell) (v : List ℕ) → IsValueText v → (p : AssignParts l a) → is_unreadable (line_cells l) ≡ false
    → IsAssignLine (concat (before_value a) ++ (map Byte v ++ concat (a.after ++ p.rest))) (units joined_byte (concat (before_value a) ++ (map Byte v ++ concat (a.after ++ p.rest)))) (with_text a v)
new-assign_line l a v t p r =
    let B = before_value a in
    let V = units joined_byte (map Byte v) in
    let Q = concat (a.after ++ p.rest) in
    let test = is_no_hash joined_byte in
    let us = units joined_byte (line_cells l) in
    let u : units joined_byte (concat B ++ (map Byte v ++ Q)) ≡ B ++ (V ++ (a.after ++ p.rest)) =
    units-value_replaced joined_byte (line_cells l) (map Byte v) (cut_text joined_byte us) p.rest a p.is p.units_are t.closed in
    let s : assignment_units a ≡ B ++ (a.value ++ a.after) = simp append_assoc in
    let old : Each test (B ++ (a.value ++ a.after)) = subst (Each test) s (subst (Each test) (sym p.is.whole) (leading-each test us)) in
    let new : Each test (B ++ (V ++ a.after)) =
    Each-append test B (V ++ a.after) (Each-left test B (a.value ++ a.after) old)
    (Each-append test V a.after t.no_hash (Each-right test a.value a.after (Each-right test B (a.value ++ a.after) old))) in
    let split : B ++ (V ++ (a.after ++ p.rest)) ≡ (B ++ (V ++ a.after)) ++ p.rest = simp append_assoc in
    let cut : cut_text joined_byte (B ++ (V ++ (a.after ++ p.rest))) ≡ B ++ (V ++ a.after) = ap (leading test) split ∙ leading-append_all test (B ++ (V ++ a.after)) p.rest new p.stops in
    let form : B ++ (V ++ a.after) ≡ a.before ++ (a.name ++ (a.operator ++ (V ++ a.after))) = simp append_assoc in
    let e : assignment joined_byte (cut_text joined_byte (units joined_byte (concat B ++ (map Byte v ++ Q)))) ≡ Some (with_text a v) =
    ap (λ z. assignment joined_byte (cut_text joined_byte z)) u ∙ (ap (assignment joined_byte) (cut ∙ form) ∙ p.is.again V a.after (value-are_value v a.after t p.is.are_value.blanks_after)) in
    record {
      filled = assignment-filled (cut_text joined_byte (units joined_byte (concat B ++ (map Byte v ++ Q)))) (with_text a v) e;
      readable = readable-replaced (concat B) (concat a.value) (map Byte v) Q (subst (λ (z : List Cell). is_unreadable z ≡ false) p.cells_are r) t.no_stray
          (replaced-are_line_cells (concat B) (concat a.value) Q v p.are_line_cells t.plain);
      assigned = e;
    }

-- an assignment's line with another value: one line, with the same line end, of the same assignment with that value
pub record IsLineWith (c : Context) (l : List ℕ) (below : List (List ℕ)) (a : Assignment Cell) (v : List ℕ) : Type 0 where
  pub parts : AssignParts l a
  pub line : IsLineOf (line_with a parts.rest v (line_end_bytes (line_end l))) (concat (before_value a) ++ (map Byte v ++ concat (a.after ++ parts.rest))) (line_end l) below
  pub class : class_of c (line_with a parts.rest v (line_end_bytes (line_end l))) ≡ Assign (with_text a v) (prefix_set_by joined_byte (nat_lt 0 c.conditionals) (with_text a v))

-- the class of cells in a context, as prefix-led or not
abbrev pub cells_class : Context → Bool → List Cell → Class Cell
cells_class c led cs = class_at joined_byte led c.defines c.flag (nat_lt 0 c.conditionals) (is_unreadable cs) (units joined_byte cs)

-- a line of class Assign with its value replaced by a text that may be one
pub line-with_value : (c : Context) (l : List ℕ) (below : List (List ℕ)) (a : Assignment Cell) (sets : Option ℕ) (v : List ℕ) → IsValueText v → class_of c l ≡ Assign a sets
    → OneLine l → EndsBefore l below → IsLineWith c l below a v
line-with_value c l below a sets v t h o n =
    let r = class_at-assign (is_prefix_led c.prefix l) c.defines c.flag (nat_lt 0 c.conditionals) (line_cells l) (units joined_byte (line_cells l)) a sets h in
    let i = plain_class-assign (is_prefix_led c.prefix l) (nat_lt 0 c.conditionals) (line_cells l) (units joined_byte (line_cells l)) a sets r.here in
    let p = assign_parts l a i in
    let P = concat (before_value a) in
    let W = concat a.value in
    let Q = concat (a.after ++ p.rest) in
    let end = line_end_bytes (line_end l) in
    let m = line_with a p.rest v end in
    let s = cells-replaced l below P W Q v p.cells_are p.are_line_cells t.plain (safe-after a.after p.rest p.is.are_value.blanks_after p.stops) o n in
    let k = cells-before a p.is.operator_ends in
    let x = some_raw P k.0 k.1 k.2 (AreLineCells-left P (W ++ Q) p.are_line_cells) in
    let whole : l ≡ raw_text P ++ (raw_text (W ++ Q) ++ end) =
    sym (without_line_end-line_end l) ∙ (ap (λ z. z ++ end) (sym (raw_text-cells (without_line_end l)) ∙ (ap raw_text p.cells_are ∙ raw_text-append P (W ++ Q))) ∙ append_assoc (raw_text P) (raw_text (W ++ Q)) end) in
    let new : m ≡ raw_text P ++ ((v ++ raw_text Q) ++ end) = append_assoc (raw_text P) (v ++ raw_text Q) end in
    let led : is_prefix_led c.prefix m ≡ is_prefix_led c.prefix l =
    ap (is_prefix_led c.prefix) new ∙ (led-same c.prefix (raw_text P) ((v ++ raw_text Q) ++ end) (raw_text (W ++ Q) ++ end) x.0 x.1 x.2 ∙ sym (ap (is_prefix_led c.prefix) whole)) in
    let g = new-assign_line l a v t p i.readable in
    record {
      parts = p;
      line = s;
      class =
          ap (λ z. cells_class c z (line_cells m)) led
          ∙ (ap (λ z. cells_class c (is_prefix_led c.prefix l) z) s.same_cells
          ∙ (r.also (P ++ (map Byte v ++ Q)) (units joined_byte (P ++ (map Byte v ++ Q)))
          ∙ assign-plain_class (is_prefix_led c.prefix l) (nat_lt 0 c.conditionals) (P ++ (map Byte v ++ Q)) (units joined_byte (P ++ (map Byte v ++ Q))) (with_text a v) g));
    }
