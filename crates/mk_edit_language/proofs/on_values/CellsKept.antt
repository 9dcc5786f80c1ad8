-- Words taken out of a value: a line may have the cells that stay, and its line end stays as it was.
use Rattle.std.proofs.Common.{◌≡◌, refl, sym, ap, ◌∙◌, subst, ℕ, List, [], ◌∷◌, ◌++◌, map, Bool, true, false, not, ◌&&◌, cond, append_assoc, reverse}
use Rattle.std.proofs.lemmas.Bool.{and_parts, not-true}
use Rattle.std.proofs.lemmas.List.{append-nil, reverse-append, reverse-reverse}
use Rattle.std.proofs.lemmas.Slice.Eq.{bytes_eq-Decides}
use Rattle.std.specs.List.{list_any}
use Rattle.mk_lines.specs.Lists.{concat, Each}
use Rattle.mk_lines.proofs.on_lists.ListLemmas.{concat-append}
use Rattle.mk_lines.proofs.on_lists.BoolLemmas.{or-left_false, or-right_false}
use Rattle.mk_lines.proofs.on_lists.CutLemmas.{state_after-append, pieces-not_empty}
use Rattle.mk_lines.specs.Bytes.{byte_kind, is_blank_kind, is_blank_byte}
use Rattle.mk_lines.specs.PhysicalLines.{line_end_bytes}
use Rattle.mk_lines.specs.Cells.{Cell, Byte, Fold, LfEnd, CrLfEnd, joined_byte, raw_text, raw_bytes, cells}
use Rattle.mk_lines.specs.CellFaults.{has_stray}
use Rattle.mk_lines.proofs.on_cells.CellLemmas.{raw_text-append}
use Rattle.mk_lines.proofs.on_lines.LineCut.{InLine, line_step, line_state_after}
use Rattle.mk_lines.proofs.on_lines.LineEndLemmas.{KeepsApart}
use Rattle.mk_lines.proofs.on_cells.LineOfCells.{IsClean, IsCleanAfter, IsCleanAfter-state_after, state_after-reset, is_reset, is_reset_kind}
use Rattle.mk_lines.proofs.on_cells.LineCells.{AreLineCells, AreLineCells-left, AreLineCells-right, AreLineCells-cells, EndLine, EndLineBefore, EndLineBefore-last, KeepsApart-last}
use Rattle.mk_lines.proofs.on_cells.CellsReplaced.{EndsReset}
use Rattle.mk_lines.specs.declared.ends.End.{End}
use Rattle.mk_lines.specs.declared.ends.End.TheVariants as ends
use Rattle.mk_lines.specs.Units.{units, is_closed, unit_step, unit_begins}
use Rattle.mk_lines.specs.Units.UnitState.{Between}
use Rattle.mk_lines.proofs.on_units.UnitLemmas.{units-append}
use Rattle.mk_lines.specs.Words.{is_gap, IsWord}
use Rattle.mk_class.specs.ListTests.{is_empty, last_passes}
use Rattle.mk_class.specs.Texts.{unit_text}
use Rattle.mk_class.specs.Symbols.{is_hash}
use Rattle.mk_class.specs.Arguments.{is_value, is_clean, is_backslash_byte}
use Rattle.mk_class.proofs.on_assignments.AssignmentLineLemmas.{gap_cell-reset}
use Rattle.mk_edit_language.specs.WordPieces.{is_word_of}
use Rattle.mk_edit_language.specs.ValueChanges.{LedWord, staying, led_units, from_first_word}
use Rattle.mk_edit_language.specs.LineCauses.{bares_end_among}
use Rattle.mk_edit_language.proofs.on_lines.HeadUnits.{AllAre, BeginsSolid, EndsSolid, BeginsSolid-before, EndsSolid-after, line_cells-after_solid, line_cells-before_solid, ordinary-cell}
use Rattle.mk_edit_language.proofs.on_values.WordParts.{IsPart, IsLedWord, led_texts, gap-closed}

-- cells of a line, with this line end before these lines
pub record FitsLine (e : End) (below : List (List ℕ)) (cs : List Cell) : Type 0 where
  pub are_line_cells : AreLineCells cs
  pub apart : KeepsApart e (reverse (raw_text cs))
  pub ends : EndLineBefore e cs below

-- ---- cells with the same end

-- cells of a line have bytes
raw-some : (d : Cell) (D : List Cell) → AreLineCells (d ∷ D) → (b : ℕ) × (r : List ℕ) × (reverse (raw_text (d ∷ D)) ≡ b ∷ r)
raw-some d D h = go (reverse (raw_text (d ∷ D))) refl
  where
    go : (t : List ℕ) → reverse (raw_text (d ∷ D)) ≡ t → (b : ℕ) × (r : List ℕ) × (reverse (raw_text (d ∷ D)) ≡ b ∷ r)
    go [] e =
        let none : raw_text (d ∷ D) ≡ [] = sym (reverse-reverse (raw_text (d ∷ D))) ∙ ap reverse e in
        absurd (let k : [] ≡ d ∷ D = ap cells (sym none) ∙ AreLineCells-cells (d ∷ D) h in cc)
    go (b ∷ r) e = (b, r, e)

apart-before : (e : End) (p s t : List ℕ) (b : ℕ) (r : List ℕ) → p ≡ b ∷ r → KeepsApart e (p ++ s) → KeepsApart e (p ++ t)
apart-before e [] s t b r h k = cc
apart-before ends.None (c ∷ p) s t b r h k = k
apart-before ends.Lf (c ∷ p) s t b r h k = k
apart-before ends.CrLf (c ∷ p) s t b r h k = tt

apart-again : (e : End) (p q : List Cell) (d : Cell) (D : List Cell) → AreLineCells (d ∷ D) → KeepsApart e (reverse (raw_text (p ++ d ∷ D))) → KeepsApart e (reverse (raw_text (q ++ d ∷ D)))
apart-again e p q d D h k =
    let n = raw-some d D h in
    let split : (a : List Cell) → reverse (raw_text (a ++ d ∷ D)) ≡ reverse (raw_text (d ∷ D)) ++ reverse (raw_text a) =
    λ a. ap reverse (raw_text-append a (d ∷ D)) ∙ reverse-append (raw_text a) (raw_text (d ∷ D)) in
    subst (KeepsApart e) (sym (split q)) (apart-before e (reverse (raw_text (d ∷ D))) (reverse (raw_text p)) (reverse (raw_text q)) n.0 n.1 n.2 (subst (KeepsApart e) (split p) k))

ends-again : (e : End) (below : List (List ℕ)) (p q : List Cell) (c d : Cell) (D : List Cell) → is_reset c ≡ true → is_reset d ≡ true → AreLineCells (p ++ c ∷ D) → AreLineCells (q ++ d ∷ D)
    → EndLineBefore e (p ++ c ∷ D) below → EndLineBefore e (q ++ d ∷ D) below
unfolding EndLine
ends-again e [] p q c d D r s h k n = tt
ends-again e (l ∷ ls) p q c d D r s h k n =
    state_after-append line_step InLine (raw_text (q ++ d ∷ D)) (line_end_bytes e)
    ∙ (ap (λ z. line_state_after z (line_end_bytes e)) (state q d s k ∙ sym (state p c r h))
    ∙ (sym (state_after-append line_step InLine (raw_text (p ++ c ∷ D)) (line_end_bytes e)) ∙ n))
  where
    state : (p : List Cell) (d : Cell) → is_reset d ≡ true → AreLineCells (p ++ d ∷ D) → line_state_after InLine (raw_text (p ++ d ∷ D)) ≡ line_state_after InLine (raw_text D)
    state p d r h =
        let tail : AreLineCells (d ∷ D) = AreLineCells-right p (d ∷ D) h in
        let split : raw_text (p ++ d ∷ D) ≡ raw_text p ++ raw_text (d ∷ D) = raw_text-append p (d ∷ D) in
        let clean : IsClean (cells (raw_text p ++ raw_text (d ∷ D))) = subst IsClean (sym (ap cells (sym split) ∙ AreLineCells-cells (p ++ d ∷ D) h)) h.clean in
        let after : IsCleanAfter (line_state_after InLine (raw_text p)) (d ∷ D) =
        subst (IsCleanAfter (line_state_after InLine (raw_text p))) (AreLineCells-cells (d ∷ D) tail) (IsCleanAfter-state_after InLine (raw_text p) (raw_text (d ∷ D)) clean) in
        ap (line_state_after InLine) split
        ∙ (state_after-append line_step InLine (raw_text p) (raw_text (d ∷ D))
        ∙ (state_after-append line_step (line_state_after InLine (raw_text p)) (raw_bytes d) (raw_text D)
        ∙ ap (λ z. line_state_after z (raw_text D)) (state_after-reset (line_state_after InLine (raw_text p)) d D r tail.are_cells.0 after)))

-- ---- cells taken out of the middle

solid-reset : (cs : List Cell) → EndsSolid cs → EndsReset cs
solid-reset cs s = record { front = s.front; last = Byte s.last; is = s.is; resets = ap is_reset_kind s.ordinary }

module _ (e : End) (below : List (List ℕ)) where
  cut-some : (x y : List Cell) (d : Cell) (D : List Cell) → EndsReset x → EndsReset y → AreLineCells (x ++ d ∷ D) → FitsLine e below (x ++ (y ++ d ∷ D)) → FitsLine e below (x ++ d ∷ D)
  cut-some x y d D r s n f =
      let Z = d ∷ D in
      let old : x ++ (y ++ Z) ≡ (x ++ s.front) ++ s.last ∷ Z =
      ap (λ z. x ++ (z ++ Z)) s.is ∙ (ap (λ z. x ++ z) (append_assoc s.front (s.last ∷ []) Z) ∙ sym (append_assoc x s.front (s.last ∷ Z))) in
      let new : x ++ Z ≡ r.front ++ r.last ∷ Z = ap (λ z. z ++ Z) r.is ∙ append_assoc r.front (r.last ∷ []) Z in
      record {
        are_line_cells = n;
        apart = apart-again e (x ++ y) x d D (AreLineCells-right x Z n) (subst (λ z. KeepsApart e (reverse (raw_text z))) (sym (append_assoc x y Z)) f.apart);
        ends =
            subst (λ z. EndLineBefore e z below) (sym new)
            (ends-again e below (x ++ s.front) r.front s.last r.last Z s.resets r.resets (subst AreLineCells old f.are_line_cells) (subst AreLineCells new n) (subst (λ z. EndLineBefore e z below) old f.ends));
      }

  -- after cells that end in an ordinary byte
  cut-after_solid : (x y z : List Cell) → EndsSolid x → EndsReset y → FitsLine e below (x ++ (y ++ z)) → FitsLine e below (x ++ z)
  cut-after_solid x y [] s r f =
      let same : x ++ [] ≡ s.front ++ Byte s.last ∷ [] = append-nil x ∙ s.is in
      let n : AreLineCells (x ++ []) = subst AreLineCells (sym (append-nil x)) (AreLineCells-left x (y ++ []) f.are_line_cells) in
      let q : is_reset (Byte s.last) ≡ true = ap is_reset_kind s.ordinary in
      record {
        are_line_cells = n;
        apart = subst (λ z. KeepsApart e (reverse (raw_text z))) (sym same) (KeepsApart-last e s.front s.last q);
        ends = subst (λ z. EndLineBefore e z below) (sym same) (EndLineBefore-last e (x ++ (y ++ [])) s.front (Byte s.last) below q f.are_line_cells (subst AreLineCells same n) f.ends);
      }
  cut-after_solid x y (d ∷ D) s r f =
      cut-some x y d D (solid-reset x s) r
      (line_cells-after_solid x (d ∷ D) (AreLineCells-left x (y ++ d ∷ D) f.are_line_cells) (AreLineCells-right y (d ∷ D) (AreLineCells-right x (y ++ d ∷ D) f.are_line_cells)) s) f

  -- before cells that begin with a byte that is no blank
  cut-before_solid : (x y z : List Cell) → EndsReset x → EndsReset y → BeginsSolid z → FitsLine e below (x ++ (y ++ z)) → FitsLine e below (x ++ z)
  cut-before_solid x y [] s r b f = absurd (let k : [] ≡ Byte b.first ∷ b.rest = b.is in cc)
  cut-before_solid x y (d ∷ D) s r b f =
      cut-some x y d D s r
      (line_cells-before_solid x (d ∷ D) (AreLineCells-left x (y ++ d ∷ D) f.are_line_cells) (AreLineCells-right y (d ∷ D) (AreLineCells-right x (y ++ d ∷ D) f.are_line_cells)) b) f

-- ---- the cells of a word

-- a word begins with a byte that is no blank
first-cell : (c : Cell) (X : List Cell) → has_stray (c ∷ X) ≡ false → is_blank_kind (byte_kind (joined_byte c)) ≡ false → BeginsSolid (c ∷ X)
first-cell (Byte b) X h n = record { first = b; rest = X; is = refl; no_blank = n }
first-cell (Fold r) X h n = cc
first-cell (LfEnd r) X h n = cc
first-cell (CrLfEnd r) X h n = cc

word-begins : (w : List (List Cell)) → IsWord joined_byte w → IsPart w → BeginsSolid (concat w)
word-begins [] i p = absurd i
word-begins ([] ∷ w) i p = absurd (pieces-not_empty (unit_step joined_byte) (unit_begins joined_byte) Between (concat w) [] w p.units_are)
word-begins ((c ∷ u) ∷ w) i p = first-cell c (u ++ concat w) p.no_stray (go (is_blank_kind (byte_kind (joined_byte c))) refl)
  where
    no_gap : (w : List (List Cell)) → IsWord joined_byte ((c ∷ u) ∷ w) → is_gap joined_byte (c ∷ u) ≡ false
    no_gap [] i = i
    no_gap (v ∷ w) i = i.0

    go : (b : Bool) → is_blank_kind (byte_kind (joined_byte c)) ≡ b → b ≡ false
    go false e = refl
    go true e =
        let s : units joined_byte (c ∷ (u ++ concat w)) ≡ (c ∷ []) ∷ units joined_byte (u ++ concat w) = units-append joined_byte (c ∷ []) (u ++ concat w) (gap-closed (c ∷ []) e) in
        let k : c ∷ u ≡ c ∷ [] = let q : (c ∷ u) ∷ w ≡ (c ∷ []) ∷ units joined_byte (u ++ concat w) = sym p.units_are ∙ s in cc in
        let g : is_gap joined_byte (c ∷ u) ≡ true = ap (is_gap joined_byte) k ∙ e in
        absurd (let q : true ≡ false = sym g ∙ no_gap w i in cc)

-- cells whose text may be a value end in an ordinary byte
last-cell : (c : Cell) (X : List Cell) → has_stray (c ∷ X) ≡ false → last_passes is_backslash_byte (map joined_byte (c ∷ X)) ≡ false → last_passes is_blank_byte (map joined_byte (c ∷ X)) ≡ false → EndsSolid (c ∷ X)
last-cell c [] h i j = let s = ordinary-cell c h i j in record { front = []; last = s.0; is = ap (λ z. z ∷ []) s.1; ordinary = s.2 }
last-cell c (d ∷ X) h i j =
    let s = last-cell d X (or-right_false _ (has_stray (d ∷ X)) h) i j in
    record { front = c ∷ s.front; last = s.last; is = ap (λ z. c ∷ z) s.is; ordinary = s.ordinary }

value-ends : (cs : List Cell) → (cs ≡ [] → ⊥) → has_stray cs ≡ false → is_value (map joined_byte cs) ≡ true → EndsSolid cs
value-ends [] n h v = absurd (n refl)
value-ends (c ∷ X) n h i =
    let v = map joined_byte (c ∷ X) in
    let p0 = and_parts (is_clean v) _ i in
    let p1 = and_parts (not (is_blank_byte (joined_byte c))) _ p0.1 in
    let p2 = and_parts (not (last_passes is_blank_byte v)) _ p1.1 in
    let p3 = and_parts (is_closed (λ b. b) v) _ p2.1 in
    let p4 = and_parts (not (list_any (is_hash (λ b. b)) (units (λ b. b) v))) _ p3.1 in
    last-cell c X h (not-true (last_passes is_backslash_byte v) p4.1) (not-true (last_passes is_blank_byte v) p2.0)

word-ends : (w : List (List Cell)) → IsWord joined_byte w → IsPart w → is_value (unit_text joined_byte w) ≡ true → EndsSolid (concat w)
word-ends w i p v =
    let b = word-begins w i p in
    value-ends (concat w) (λ e. let k : [] ≡ Byte b.first ∷ b.rest = sym e ∙ b.is in cc) p.no_stray v

-- gaps after cells that end in a blank, a fold or an ordinary byte
gaps-reset : (x : List Cell) (g : List (List Cell)) → EndsReset x → Each (is_gap joined_byte) g → EndsReset (x ++ concat g)
gaps-reset x [] r h = subst EndsReset (sym (append-nil x)) r
gaps-reset x ([] ∷ g) r h = absurd (let k : false ≡ true = h.0 in cc)
gaps-reset x ((c ∷ []) ∷ g) r h =
    subst EndsReset (append_assoc x (c ∷ []) (concat g)) (gaps-reset (x ++ c ∷ []) g (record { front = x; last = c; is = refl; resets = gap_cell-reset c h.0 }) h.1)
gaps-reset x ((c ∷ d ∷ u) ∷ g) r h = absurd (let k : false ≡ true = h.0 in cc)

-- ---- the words of a value

-- the cells of a word with the gaps before it
abbrev pub led_cells : LedWord → List Cell
led_cells l = concat (l.gaps ++ l.word)

pub led-cells : (l : LedWord) (ls : List LedWord) → concat (led_units (l ∷ ls)) ≡ led_cells l ++ concat (led_units ls)
led-cells l ls = ap concat (sym (append_assoc l.gaps l.word (led_units ls))) ∙ concat-append (l.gaps ++ l.word) (led_units ls)

led-ends : (l : LedWord) → IsLedWord l → is_value (unit_text joined_byte l.word) ≡ true → EndsSolid (led_cells l)
led-ends l h v = subst EndsSolid (sym (concat-append l.gaps l.word)) (EndsSolid-after (concat l.gaps) (concat l.word) (word-ends l.word h.is_word h.word v))

not-false : (b : Bool) → not b ≡ false → b ≡ true
not-false true h = refl
not-false false h = cc

module _ (e : End) (below : List (List ℕ)) (t : List ℕ) (Q : List Cell) (v : is_value t ≡ true) where
  goes-value : (w : List (List Cell)) → is_word_of t w ≡ true → is_value (unit_text joined_byte w) ≡ true
  goes-value w h = ap is_value ((bytes_eq-Decides (unit_text joined_byte w) t).0 h) ∙ v

  -- after cells x, which end in an ordinary byte if the word before is a value
  after-kept : (x : List Cell) (prev : List ℕ) (ls : List LedWord) → AllAre IsLedWord ls → (is_value prev ≡ true → EndsSolid x) → bares_end_among t (prev ∷ led_texts ls) ≡ false
      → FitsLine e below (x ++ (concat (led_units ls) ++ Q)) → FitsLine e below (x ++ (concat (led_units (staying t ls)) ++ Q))
  after-kept x prev [] h s b f = f
  after-kept x prev (l ∷ ls) h s b f =
      let y = led_cells l in
      let C = concat (led_units ls) in
      let rest = or-right_false (is_word_of t l.word && not (is_value prev)) (bares_end_among t (unit_text joined_byte l.word ∷ led_texts ls)) b in
      let split : concat (led_units (l ∷ ls)) ++ Q ≡ y ++ (C ++ Q) = ap (λ z. z ++ Q) (led-cells l ls) ∙ append_assoc y C Q in
      go (is_word_of t l.word) refl (or-left_false (is_word_of t l.word && not (is_value prev)) (bares_end_among t (unit_text joined_byte l.word ∷ led_texts ls)) b)
      (subst (λ z. FitsLine e below (x ++ z)) split f)
      (λ z. after-kept x (unit_text joined_byte l.word) ls h.1 (λ k. z) rest)
      (after-kept (x ++ y) (unit_text joined_byte l.word) ls h.1 (λ k. EndsSolid-after x y (led-ends l h.0 k)) rest)
    where
      go : (c : Bool) → is_word_of t l.word ≡ c → (c && not (is_value prev)) ≡ false → FitsLine e below (x ++ (led_cells l ++ (concat (led_units ls) ++ Q)))
          → (EndsSolid x → FitsLine e below (x ++ (concat (led_units ls) ++ Q)) → FitsLine e below (x ++ (concat (led_units (staying t ls)) ++ Q)))
          → (FitsLine e below ((x ++ led_cells l) ++ (concat (led_units ls) ++ Q)) → FitsLine e below ((x ++ led_cells l) ++ (concat (led_units (staying t ls)) ++ Q)))
          → FitsLine e below (x ++ (concat (led_units (cond (not c) (l ∷ staying t ls) (staying t ls))) ++ Q))
      go true k n f i j =
          let z : EndsSolid x = s (not-false (is_value prev) n) in
          i z (cut-after_solid e below x (led_cells l) (concat (led_units ls) ++ Q) z (solid-reset (led_cells l) (led-ends l h.0 (goes-value l.word k))) f)
      go false k n f i j =
          let D = concat (led_units (staying t ls)) in
          subst (λ z. FitsLine e below (x ++ z)) (sym (ap (λ z. z ++ Q) (led-cells l (staying t ls)) ∙ append_assoc (led_cells l) D Q))
          (subst (FitsLine e below) (append_assoc x (led_cells l) (D ++ Q)) (j (subst (FitsLine e below) (sym (append_assoc x (led_cells l) (concat (led_units ls) ++ Q))) f)))

  -- after cells x before which no word stands
  pub front-kept : (x : List Cell) → EndsReset x → (ls : List LedWord) → AllAre IsLedWord ls → bares_end_among t (led_texts ls) ≡ false → is_empty (staying t ls) ≡ false
      → FitsLine e below (x ++ (concat (from_first_word ls) ++ Q)) → FitsLine e below (x ++ (concat (from_first_word (staying t ls)) ++ Q))
  front-kept x r [] h b n f = f
  front-kept x r (l ∷ ls) h b n f =
      go (is_word_of t l.word) refl n (front-kept x r ls h.1 (fewer (unit_text joined_byte l.word) ls b))
      (after-kept (x ++ concat l.word) (unit_text joined_byte l.word) ls h.1 (λ k. EndsSolid-after x (concat l.word) (word-ends l.word h.0.is_word h.0.word k)) b)
    where
      fewer : (p : List ℕ) (ls : List LedWord) → bares_end_among t (p ∷ led_texts ls) ≡ false → bares_end_among t (led_texts ls) ≡ false
      fewer p [] b = refl
      fewer p (m ∷ ls) b = or-right_false (is_word_of t m.word && not (is_value p)) (bares_end_among t (unit_text joined_byte m.word ∷ led_texts ls)) b

      word-split : (ks : List LedWord) → concat (from_first_word (l ∷ ks)) ++ Q ≡ concat l.word ++ (concat (led_units ks) ++ Q)
      word-split ks = ap (λ z. z ++ Q) (concat-append l.word (led_units ks)) ∙ append_assoc (concat l.word) (concat (led_units ks)) Q

      front : (ls : List LedWord) → AllAre IsLedWord ls → is_word_of t l.word ≡ true → is_empty (staying t ls) ≡ false → FitsLine e below (x ++ (concat (from_first_word (l ∷ ls)) ++ Q)) → FitsLine e below (x ++ (concat (from_first_word ls) ++ Q))
      front [] g k n f = absurd (let q : true ≡ false = n in cc)
      front (m ∷ ls) g k n f =
          let y = concat l.word ++ concat m.gaps in
          let Z = concat (from_first_word (m ∷ ls)) in
          let split : concat (from_first_word (l ∷ m ∷ ls)) ++ Q ≡ y ++ (Z ++ Q) =
          word-split (m ∷ ls)
          ∙ (ap (λ z. concat l.word ++ (z ++ Q)) (concat-append m.gaps (m.word ++ led_units ls))
          ∙ (ap (λ z. concat l.word ++ z) (append_assoc (concat m.gaps) Z Q) ∙ sym (append_assoc (concat l.word) (concat m.gaps) (Z ++ Q)))) in
          let reset : EndsReset y = gaps-reset (concat l.word) m.gaps (solid-reset (concat l.word) (word-ends l.word h.0.is_word h.0.word (goes-value l.word k))) g.0.are_gaps in
          let begins : BeginsSolid (Z ++ Q) =
          BeginsSolid-before Z Q (subst BeginsSolid (sym (concat-append m.word (led_units ls))) (BeginsSolid-before (concat m.word) (concat (led_units ls)) (word-begins m.word g.0.is_word g.0.word))) in
          cut-before_solid e below x y (Z ++ Q) r reset begins (subst (λ z. FitsLine e below (x ++ z)) split f)

      go : (c : Bool) → is_word_of t l.word ≡ c → is_empty (cond (not c) (l ∷ staying t ls) (staying t ls)) ≡ false
          → (is_empty (staying t ls) ≡ false → FitsLine e below (x ++ (concat (from_first_word ls) ++ Q)) → FitsLine e below (x ++ (concat (from_first_word (staying t ls)) ++ Q)))
          → (FitsLine e below ((x ++ concat l.word) ++ (concat (led_units ls) ++ Q)) → FitsLine e below ((x ++ concat l.word) ++ (concat (led_units (staying t ls)) ++ Q)))
          → FitsLine e below (x ++ (concat (from_first_word (cond (not c) (l ∷ staying t ls) (staying t ls))) ++ Q))
      go true k n i j = i n (front ls h.1 k n f)
      go false k n i j =
          subst (λ z. FitsLine e below (x ++ z)) (sym (word-split (staying t ls)))
          (subst (FitsLine e below) (append_assoc x (concat l.word) (concat (led_units (staying t ls)) ++ Q))
          (j (subst (FitsLine e below) (sym (append_assoc x (concat l.word) (concat (led_units ls) ++ Q))) (subst (λ z. FitsLine e below (x ++ z)) (word-split ls) f))))
