-- Some cells of a line replaced by a text, or taken out: the line is one line of the new cells, with the same line end.
use Rattle.std.proofs.Common.{◌≡◌, refl, sym, ap, ◌∙◌, subst, ℕ, List, [], ◌∷◌, ◌++◌, map, Bool, true, false, not, append_assoc, reverse}
use Rattle.std.proofs.lemmas.List.{append-nil, map-append}
use Rattle.mk_lines.specs.Bytes.{ByteKind, byte_kind, LineFeed, CarriageReturn, Backslash, Blank, Ordinary, is_blank_kind}
use Rattle.mk_lines.specs.PhysicalLines.{line_end, line_end_bytes}
use Rattle.mk_lines.specs.Cells.{Cell, Byte, Fold, raw_text, line_cells}
use Rattle.mk_lines.proofs.on_cells.CellLemmas.{raw_text-append, raw_text-bytes, is_solid}
use Rattle.mk_lines.proofs.on_lines.LineLemmas.{OneLine, EndsBefore}
use Rattle.mk_lines.proofs.on_lines.LineEndLemmas.{KeepsApart}
use Rattle.mk_lines.proofs.on_cells.LineOfCells.{is_reset, is_reset_kind}
use Rattle.mk_lines.proofs.on_cells.LineCells.{AreLineCells, AreLineCells-left, AreLineCells-right, AreLineCells-append, Joins, Joins-nothing, Joins-solid, Joins-ordinary, HasNoLineEnd, bytes-are_line_cells, EndLineBefore, IsLineOf, line-of_cells, line-ends, line-keeps_apart, EndLineBefore-tail, EndLineBefore-last, KeepsApart-tail, KeepsApart-last}
use Rattle.mk_lines.specs.declared.ends.End.{End}

-- ---- texts that can stand anywhere among cells

-- whether a byte of this kind is ordinary
abbrev pub is_ordinary_kind : ByteKind → Bool
is_ordinary_kind Ordinary = true
is_ordinary_kind k = false

-- whether the first byte is no blank
abbrev begins_solid : List ℕ → Bool
begins_solid [] = false
begins_solid (b ∷ v) = not (is_blank_kind (byte_kind b))

-- whether the last byte is no blank, backslash, CR or LF
abbrev pub ends_ordinary : List ℕ → Bool
ends_ordinary [] = false
ends_ordinary (b ∷ []) = is_ordinary_kind (byte_kind b)
ends_ordinary (b ∷ c ∷ v) = ends_ordinary (c ∷ v)

-- a text that is not empty, begins with no blank, has no LF and no CR, and ends in no blank and no backslash
pub record IsPlainText (v : List ℕ) : Type 0 where
  pub begins : begins_solid v ≡ true
  pub inner : HasNoLineEnd v
  pub ends : ends_ordinary v ≡ true

is_ordinary_kind-is : (k : ByteKind) → is_ordinary_kind k ≡ true → k ≡ Ordinary
is_ordinary_kind-is Ordinary h = refl
is_ordinary_kind-is LineFeed h = cc
is_ordinary_kind-is CarriageReturn h = cc
is_ordinary_kind-is Backslash h = cc
is_ordinary_kind-is Blank h = cc

-- the last byte of a text that ends in an ordinary byte, by itself
pub ends_ordinary-split : (v : List ℕ) → ends_ordinary v ≡ true → (front : List ℕ) × (last : ℕ) × (v ≡ front ++ last ∷ []) × (byte_kind last ≡ Ordinary)
ends_ordinary-split [] h = cc
ends_ordinary-split (b ∷ []) h = ([], b, refl, is_ordinary_kind-is (byte_kind b) h)
ends_ordinary-split (b ∷ c ∷ v) h = let s = ends_ordinary-split (c ∷ v) h in (b ∷ s.0, s.1, ap (λ z. b ∷ z) s.2, s.3)

-- the bytes of a text that ends in an ordinary byte join whatever follows
pub ends_ordinary-joins : (v : List ℕ) (cs : List Cell) → ends_ordinary v ≡ true → Joins (map Byte v) cs
ends_ordinary-joins v cs h =
    let s = ends_ordinary-split v h in
    subst (λ z. Joins z cs) (sym (ap (map Byte) s.2 ∙ map-append Byte s.0 (s.1 ∷ []))) (Joins-ordinary (map Byte s.0) s.1 cs s.3)

-- whatever stands before the bytes of a text that begins with no blank joins them
pub begins_solid-joins : (a : List Cell) (v : List ℕ) (cs : List Cell) → begins_solid v ≡ true → Joins a (map Byte v ++ cs)
begins_solid-joins a [] cs h = cc
begins_solid-joins a (b ∷ v) cs h = Joins-solid a b (map Byte v ++ cs) (go (is_blank_kind (byte_kind b)) h)
  where
    go : (c : Bool) → not c ≡ true → c ≡ false
    go true e = cc
    go false e = refl

pub not_empty-append : (a b : List ℕ) (x : ℕ) (c : List ℕ) → b ≡ x ∷ c → (y : ℕ) × (r : List ℕ) × (a ++ b ≡ y ∷ r)
not_empty-append [] b x c h = (x, c, h)
not_empty-append (y ∷ a) b x c h = (y, a ++ b, refl)

text_not_empty : (v : List ℕ) → begins_solid v ≡ true → (x : ℕ) × (c : List ℕ) × (v ≡ x ∷ c)
text_not_empty [] h = cc
text_not_empty (x ∷ v) h = (x, v, refl)

-- what stays at the end: nothing, or cells whose first one makes the state of the machine the same whatever stood before
abbrev pub IsSafeTail : List Cell → Type 0
IsSafeTail [] = Unit {0}
IsSafeTail (d ∷ D) = is_reset d ≡ true

-- ---- cells replaced by a text

raw_text-replaced : (P Q : List Cell) (v : List ℕ) → raw_text (P ++ (map Byte v ++ Q)) ≡ raw_text P ++ (v ++ raw_text Q)
raw_text-replaced P Q v = rw (raw_text-append P (map Byte v ++ Q), raw_text-append (map Byte v) Q, raw_text-bytes v) refl

-- the cells of a line with the cells W replaced by a plain text
pub replaced-are_line_cells : (P W Q : List Cell) (v : List ℕ) → AreLineCells (P ++ (W ++ Q)) → IsPlainText v → AreLineCells (P ++ (map Byte v ++ Q))
replaced-are_line_cells P W Q v h p =
    AreLineCells-append P (map Byte v ++ Q) (AreLineCells-left P (W ++ Q) h)
    (AreLineCells-append (map Byte v) Q (bytes-are_line_cells v p.inner) (AreLineCells-right W Q (AreLineCells-right P (W ++ Q) h)) (ends_ordinary-joins v Q p.ends))
    (begins_solid-joins P v Q p.begins)

last_of_replaced : (P : List Cell) (v front : List ℕ) (last : ℕ) → v ≡ front ++ last ∷ [] → P ++ (map Byte v ++ []) ≡ (P ++ map Byte front) ++ Byte last ∷ []
last_of_replaced P v front last h =
    ap (λ z. P ++ z) (append-nil (map Byte v) ∙ (ap (map Byte) h ∙ map-append Byte front (last ∷ []))) ∙ sym (append_assoc P (map Byte front) (Byte last ∷ []))

reset-ordinary : (b : ℕ) → byte_kind b ≡ Ordinary → is_reset (Byte b) ≡ true
reset-ordinary b h = ap is_reset_kind h

replaced-ends : (l : List ℕ) (below : List (List ℕ)) (P W Q : List Cell) (v : List ℕ) → IsSafeTail Q → AreLineCells (P ++ (W ++ Q)) → IsPlainText v
    → KeepsApart (line_end l) (reverse (raw_text (P ++ (W ++ Q)))) → EndLineBefore (line_end l) (P ++ (W ++ Q)) below
    → KeepsApart (line_end l) (reverse (raw_text (P ++ (map Byte v ++ Q)))) × EndLineBefore (line_end l) (P ++ (map Byte v ++ Q)) below
replaced-ends l below P W [] v r h p k n =
    let s = ends_ordinary-split v p.ends in
    let e : P ++ (map Byte v ++ []) ≡ (P ++ map Byte s.0) ++ Byte s.1 ∷ [] = last_of_replaced P v s.0 s.1 s.2 in
    let new : AreLineCells ((P ++ map Byte s.0) ++ Byte s.1 ∷ []) = subst AreLineCells e (replaced-are_line_cells P W [] v h p) in (
      subst (λ z. KeepsApart (line_end l) (reverse (raw_text z))) (sym e) (KeepsApart-last (line_end l) (P ++ map Byte s.0) s.1 (reset-ordinary s.1 s.3)),
      subst (λ z. EndLineBefore (line_end l) z below) (sym e) (EndLineBefore-last (line_end l) (P ++ (W ++ [])) (P ++ map Byte s.0) (Byte s.1) below (reset-ordinary s.1 s.3) h new n),
    )
replaced-ends l below P W (d ∷ D) v r h p k n =
    let before : P ++ (W ++ (d ∷ D)) ≡ (P ++ W) ++ (d ∷ D) = sym (append_assoc P W (d ∷ D)) in
    let after : P ++ (map Byte v ++ (d ∷ D)) ≡ (P ++ map Byte v) ++ (d ∷ D) = sym (append_assoc P (map Byte v) (d ∷ D)) in
    let tail : AreLineCells (d ∷ D) = AreLineCells-right W (d ∷ D) (AreLineCells-right P (W ++ (d ∷ D)) h) in (
      subst (λ z. KeepsApart (line_end l) (reverse (raw_text z))) (sym after)
          (KeepsApart-tail (line_end l) (P ++ W) (P ++ map Byte v) d D r tail.are_cells.0 (subst (λ z. KeepsApart (line_end l) (reverse (raw_text z))) before k)),
      subst (λ z. EndLineBefore (line_end l) z below) (sym after)
          (EndLineBefore-tail (line_end l) (P ++ W) (P ++ map Byte v) d D below r (subst AreLineCells before h) (subst AreLineCells after (replaced-are_line_cells P W (d ∷ D) v h p)) (subst (λ z. EndLineBefore (line_end l) z below) before n)),
    )

-- a line with the cells W replaced by a plain text
pub cells-replaced : (l : List ℕ) (below : List (List ℕ)) (P W Q : List Cell) (v : List ℕ) → line_cells l ≡ P ++ (W ++ Q) → AreLineCells (P ++ (W ++ Q)) → IsPlainText v → IsSafeTail Q
    → OneLine l → EndsBefore l below → IsLineOf ((raw_text P ++ (v ++ raw_text Q)) ++ line_end_bytes (line_end l)) (P ++ (map Byte v ++ Q)) (line_end l) below
cells-replaced l below P W Q v h c p r o n =
    let e = replaced-ends l below P W Q v r c p
    (subst (λ z. KeepsApart (line_end l) (reverse (raw_text z))) h (line-keeps_apart l)) (subst (λ z. EndLineBefore (line_end l) z below) h (line-ends l below o n)) in
    let x = text_not_empty v p.begins in
    let same : raw_text (P ++ (map Byte v ++ Q)) ++ line_end_bytes (line_end l) ≡ (raw_text P ++ (v ++ raw_text Q)) ++ line_end_bytes (line_end l) =
    ap (λ z. z ++ line_end_bytes (line_end l)) (raw_text-replaced P Q v) in
    let y = not_empty-append (raw_text P) (v ++ (raw_text Q ++ line_end_bytes (line_end l))) x.0 (x.1 ++ (raw_text Q ++ line_end_bytes (line_end l))) (ap (λ z. z ++ (raw_text Q ++ line_end_bytes (line_end l))) x.2) in
    let some : (raw_text P ++ (v ++ raw_text Q)) ++ line_end_bytes (line_end l) ≡ y.0 ∷ y.1 =
    append_assoc (raw_text P) (v ++ raw_text Q) (line_end_bytes (line_end l)) ∙ (ap (λ z. raw_text P ++ z) (append_assoc v (raw_text Q) (line_end_bytes (line_end l))) ∙ y.2) in
    subst (λ z. IsLineOf z (P ++ (map Byte v ++ Q)) (line_end l) below) same
    (line-of_cells (P ++ (map Byte v ++ Q)) (line_end l) below y.0 y.1 (replaced-are_line_cells P W Q v c p) e.0 e.1 (same ∙ some))

-- ---- cells taken out

-- what stays at the end: nothing, or a byte that is no blank and after which the state is the same whatever stood before, such as
-- a `#`
abbrev pub IsSolidTail : List Cell → Type 0
IsSolidTail [] = Unit {0}
IsSolidTail (d ∷ D) = (is_solid d ≡ true) × (is_reset d ≡ true)

-- what stays before: nothing, or cells that end in a blank, a fold or an ordinary byte
pub record EndsReset (P : List Cell) : Type 0 where
  pub front : List Cell
  pub last : Cell
  pub is : P ≡ front ++ (last ∷ [])
  pub resets : is_reset last ≡ true

Joins-solid_tail : (P Q : List Cell) → IsSolidTail Q → Joins P Q
Joins-solid_tail P [] h = Joins-nothing P
Joins-solid_tail P (Byte b ∷ D) h = Joins-solid P b D (go (is_blank_kind (byte_kind b)) h.0)
  where
    go : (c : Bool) → not c ≡ true → c ≡ false
    go true e = cc
    go false e = refl
Joins-solid_tail P (Fold r ∷ D) h = absurd (let k : false ≡ true = h.0 in cc)
Joins-solid_tail P (Cell.LfEnd r ∷ D) h = absurd (let k : false ≡ true = h.0 in cc)
Joins-solid_tail P (Cell.CrLfEnd r ∷ D) h = absurd (let k : false ≡ true = h.0 in cc)

-- the cells of a line with the cells W taken out
pub removed-are_line_cells : (P W Q : List Cell) → AreLineCells (P ++ (W ++ Q)) → IsSolidTail Q → AreLineCells (P ++ Q)
removed-are_line_cells P W Q h t = AreLineCells-append P Q (AreLineCells-left P (W ++ Q) h) (AreLineCells-right W Q (AreLineCells-right P (W ++ Q) h)) (Joins-solid_tail P Q t)

removed-ends : (e : End) (below : List (List ℕ)) (P W Q : List Cell) → IsSolidTail Q → EndsReset P → AreLineCells (P ++ (W ++ Q)) → EndLineBefore e (P ++ (W ++ Q)) below → EndLineBefore e (P ++ Q) below
removed-ends e below P W [] t r h n =
    let same : P ++ [] ≡ r.front ++ r.last ∷ [] = append-nil P ∙ r.is in
    subst (λ z. EndLineBefore e z below) (sym same) (EndLineBefore-last e (P ++ (W ++ [])) r.front r.last below r.resets h (subst AreLineCells same (removed-are_line_cells P W [] h t)) n)
removed-ends e below P W (d ∷ D) t r h n =
    let before : P ++ (W ++ (d ∷ D)) ≡ (P ++ W) ++ (d ∷ D) = sym (append_assoc P W (d ∷ D)) in
    EndLineBefore-tail e (P ++ W) P d D below t.1 (subst AreLineCells before h) (removed-are_line_cells P W (d ∷ D) h t) (subst (λ z. EndLineBefore e z below) before n)

-- A line with the cells W taken out. The line end stays apart from the cells that stay, except in one case: these cells end in a
-- fold's line feed, and the line has no line end.
pub cells-removed : (l : List ℕ) (below : List (List ℕ)) (P W Q : List Cell) (b : ℕ) (r : List ℕ) → line_cells l ≡ P ++ (W ++ Q) → AreLineCells (P ++ (W ++ Q)) → IsSolidTail Q → EndsReset P
    → KeepsApart (line_end l) (reverse (raw_text (P ++ Q))) → OneLine l → EndsBefore l below → raw_text (P ++ Q) ++ line_end_bytes (line_end l) ≡ b ∷ r
    → IsLineOf (raw_text (P ++ Q) ++ line_end_bytes (line_end l)) (P ++ Q) (line_end l) below
cells-removed l below P W Q b r h c t e k o n m =
    line-of_cells (P ++ Q) (line_end l) below b r (removed-are_line_cells P W Q c t) k
    (removed-ends (line_end l) below P W Q t e c (subst (λ z. EndLineBefore (line_end l) z below) h (line-ends l below o n))) m
