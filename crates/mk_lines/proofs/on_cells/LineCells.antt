-- Cells that a line may have: they are read again from their raw bytes, and with a line end they are one line. Lists of them
-- are taken apart and put together at seams.
use Rattle.std.proofs.Common.{◌≡◌, refl, sym, ap, ◌∙◌, subst, ℕ, List, [], ◌∷◌, ◌++◌, map, Bool, true, false, not, ◌&&◌, reverse}
use Rattle.std.proofs.lemmas.List.{append-nil, reverse-append, reverse-reverse}
use Rattle.std.proofs.Math.Bool.{and-false}
use Rattle.std.proofs.lemmas.Bool.{or_from}
use Rattle.mk_lines.specs.Bytes.{ByteKind, byte_kind, LineFeed, CarriageReturn, Backslash, Blank, Ordinary, is_blank_kind}
use Rattle.mk_lines.specs.PhysicalLines.{line_end, line_end_bytes, without_line_end}
use Rattle.mk_lines.specs.Cells.{Cell, Byte, Fold, LfEnd, CrLfEnd, raw_bytes, raw_text, cells, line_cells, NoLineEnds, is_line_end}
use Rattle.mk_lines.specs.CellFaults.{has_bad_fold, is_fold_first, is_backslash_cell}
use Rattle.mk_lines.specs.Lists.{Each}
use Rattle.mk_lines.proofs.on_lists.ListLemmas.{Each-append, Each-left, Each-right}
use Rattle.mk_lines.proofs.on_lists.CutLemmas.{state_after-append}
use Rattle.mk_lines.proofs.on_lines.LineCut.{LineState, AtStart, InLine, AfterOddRun, AfterOddRunCr, line_step, line_state_after}
use Rattle.mk_lines.proofs.on_cells.CellLemmas.{AreCells, AreCells-left, AreCells-right, AreCells-append, IsCell, Meets, FitsBefore, byte_fits_before, cells-are_cells, cells-raw_text, raw_text-append, raw_text-cells, solid-meets}
use Rattle.mk_lines.proofs.on_lines.LineLemmas.{OneLine, Ends, EndsBefore}
use Rattle.mk_lines.proofs.on_lines.LineEndLemmas.{KeepsApart, FirstIsNot, without_line_end-append, line_end-append, line_end-keeps_apart, without_line_end-line_end, state_after-start}
use Rattle.mk_lines.proofs.on_cells.LineOfCells.{IsClean, IsCleanAfter, IsCleanAfter-state_after, state_after-reset, is_reset, is_reset_kind, one_line-of_cells}
use Rattle.mk_lines.specs.declared.ends.End.{End}
use Rattle.mk_lines.specs.declared.ends.End.TheVariants.{None, Lf, CrLf}
use Rattle.mk_lines.proofs.on_lists.BoolLemmas.{or-left_false, or-right_false}

-- cells that a line may have: they fit each other, and there is no line end and no bad fold among them
pub record AreLineCells (cs : List Cell) : Type 0 where
  pub are_cells : AreCells cs
  pub clean : IsClean cs

-- the cells of a text may be those of a line if they are clean
pub cells-are_line_cells : (t : List ℕ) → IsClean (cells t) → AreLineCells (cells t)
cells-are_line_cells t h = record { are_cells = cells-are_cells t; clean = h }

-- such cells are read again from their raw bytes
pub AreLineCells-cells : (cs : List Cell) → AreLineCells cs → cells (raw_text cs) ≡ cs
AreLineCells-cells cs h = cells-raw_text cs h.are_cells h.clean.0

-- ---- seams

-- whether the fold at the front of some cells is bad after this cell
abbrev pub is_bad_before : Cell → List Cell → Bool
is_bad_before c cs = is_backslash_cell c && is_fold_first cs

-- the last cell of one list stays as it is before the other list, and does not make the fold at the front of that list bad
abbrev pub Joins : List Cell → List Cell → Type 0
Joins [] b = Unit {0}
Joins (c ∷ []) b = FitsBefore c b × (is_bad_before c b ≡ false)
Joins (c ∷ d ∷ a) b = Joins (d ∷ a) b

Joins-meets : (a b : List Cell) → Joins a b → Meets a b
Joins-meets [] b h = tt
Joins-meets (c ∷ []) b h = h.0
Joins-meets (c ∷ d ∷ a) b h = Joins-meets (d ∷ a) b h

bad_fold-left : (a b : List Cell) → has_bad_fold (a ++ b) ≡ false → has_bad_fold a ≡ false
bad_fold-left [] b h = refl
bad_fold-left (c ∷ []) b h = or_from (is_backslash_cell c && false) false (and-false (is_backslash_cell c)) refl
bad_fold-left (c ∷ d ∷ a) b h =
    or_from (is_bad_before c (d ∷ a)) (has_bad_fold (d ∷ a)) (or-left_false (is_bad_before c (d ∷ a)) (has_bad_fold (d ∷ (a ++ b))) h)
    (bad_fold-left (d ∷ a) b (or-right_false (is_bad_before c (d ∷ a)) (has_bad_fold (d ∷ (a ++ b))) h))

bad_fold-right : (a b : List Cell) → has_bad_fold (a ++ b) ≡ false → has_bad_fold b ≡ false
bad_fold-right [] b h = h
bad_fold-right (c ∷ a) b h = bad_fold-right a b (or-right_false (is_bad_before c (a ++ b)) (has_bad_fold (a ++ b)) h)

bad_fold-append : (a b : List Cell) → has_bad_fold a ≡ false → has_bad_fold b ≡ false → Joins a b → has_bad_fold (a ++ b) ≡ false
bad_fold-append [] b h k j = k
bad_fold-append (c ∷ []) b h k j = or_from (is_bad_before c b) (has_bad_fold b) j.1 k
bad_fold-append (c ∷ d ∷ a) b h k j =
    or_from (is_bad_before c (d ∷ a)) (has_bad_fold (d ∷ (a ++ b))) (or-left_false (is_bad_before c (d ∷ a)) (has_bad_fold (d ∷ a)) h)
    (bad_fold-append (d ∷ a) b (or-right_false (is_bad_before c (d ∷ a)) (has_bad_fold (d ∷ a)) h) k j)

-- the first part of cells that a line may have has cells that a line may have
pub AreLineCells-left : (a b : List Cell) → AreLineCells (a ++ b) → AreLineCells a
AreLineCells-left a b h = record { are_cells = AreCells-left a b h.are_cells; clean = (Each-left (λ c. not (is_line_end c)) a b h.clean.0, bad_fold-left a b h.clean.1) }

-- the last part of cells that a line may have has cells that a line may have
pub AreLineCells-right : (a b : List Cell) → AreLineCells (a ++ b) → AreLineCells b
AreLineCells-right a b h = record { are_cells = AreCells-right a b h.are_cells; clean = (Each-right (λ c. not (is_line_end c)) a b h.clean.0, bad_fold-right a b h.clean.1) }

-- two lists of cells that a line may have, put together: a line may have them if the lists join
pub AreLineCells-append : (a b : List Cell) → AreLineCells a → AreLineCells b → Joins a b → AreLineCells (a ++ b)
AreLineCells-append a b h k j = record {
  are_cells = AreCells-append a b h.are_cells k.are_cells (Joins-meets a b j);
  clean = (Each-append (λ c. not (is_line_end c)) a b h.clean.0 k.clean.0, bad_fold-append a b h.clean.1 k.clean.1 j);
}

-- a line may have no cells
pub AreLineCells-none : AreLineCells []
AreLineCells-none = record { are_cells = tt; clean = (tt, refl) }

-- nothing joins anything, and anything joins nothing
pub Joins-nothing : (a : List Cell) → Joins a []
Joins-nothing [] = tt
Joins-nothing (c ∷ []) = (tt, and-false (is_backslash_cell c))
Joins-nothing (c ∷ d ∷ a) = Joins-nothing (d ∷ a)

-- any cells join a byte that is not blank
pub Joins-solid : (a : List Cell) (b : ℕ) (cs : List Cell) → is_blank_kind (byte_kind b) ≡ false → Joins a (Byte b ∷ cs)
Joins-solid [] b cs h = tt
Joins-solid (c ∷ []) b cs h = (solid-meets (c ∷ []) (Byte b) cs (rw h refl), and-false (is_backslash_cell c))
Joins-solid (c ∷ d ∷ a) b cs h = Joins-solid (d ∷ a) b cs h

-- what follows an element at the end of a list
Joins-last : (a : List Cell) (c : Cell) (b : List Cell) → FitsBefore c b → is_bad_before c b ≡ false → Joins (a ++ c ∷ []) b
Joins-last [] c b f h = (f, h)
Joins-last (d ∷ []) c b f h = (f, h)
Joins-last (d ∷ e ∷ a) c b f h = Joins-last (e ∷ a) c b f h

-- an ordinary byte joins anything
ordinary-fits_before : (b : ℕ) (cs : List Cell) → byte_kind b ≡ Ordinary → FitsBefore (Byte b) cs
ordinary-fits_before b [] h = tt
ordinary-fits_before b (d ∷ cs) h = rw h refl

ordinary-not_bad : (b : ℕ) (cs : List Cell) → byte_kind b ≡ Ordinary → is_bad_before (Byte b) cs ≡ false
ordinary-not_bad b cs h = rw h refl

-- what ends in an ordinary byte joins anything
pub Joins-ordinary : (a : List Cell) (b : ℕ) (cs : List Cell) → byte_kind b ≡ Ordinary → Joins (a ++ Byte b ∷ []) cs
Joins-ordinary a b cs h = Joins-last a (Byte b) cs (ordinary-fits_before b cs h) (ordinary-not_bad b cs h)

-- ---- bytes as cells

-- whether a byte of this kind is neither a line feed nor a carriage return
abbrev pub is_no_line_end_kind : ByteKind → Bool
is_no_line_end_kind LineFeed = false
is_no_line_end_kind CarriageReturn = false
is_no_line_end_kind k = true

-- a text without LF and CR
abbrev pub HasNoLineEnd : List ℕ → Type 0
HasNoLineEnd t = Each (λ b. is_no_line_end_kind (byte_kind b)) t

bytes-no_line_ends : (t : List ℕ) → NoLineEnds (map Byte t)
bytes-no_line_ends [] = tt
bytes-no_line_ends (b ∷ t) = (refl, bytes-no_line_ends t)

bytes-fit_before : (b : ℕ) (t : List ℕ) → FitsBefore (Byte b) (map Byte t)
bytes-fit_before b [] = tt
bytes-fit_before b (c ∷ t) = go (byte_kind b)
  where
    go : (k : ByteKind) → byte_fits_before k (Byte c) ≡ true
    go LineFeed = refl
    go CarriageReturn = refl
    go Backslash = refl
    go Blank = refl
    go Ordinary = refl

no_line_feed : (k : ByteKind) → is_no_line_end_kind k ≡ true → k ≡ LineFeed → ⊥
no_line_feed LineFeed h e = cc
no_line_feed CarriageReturn h e = cc
no_line_feed Backslash h e = cc
no_line_feed Blank h e = cc
no_line_feed Ordinary h e = cc

bytes-are_cells : (t : List ℕ) → HasNoLineEnd t → AreCells (map Byte t)
bytes-are_cells [] h = tt
bytes-are_cells (b ∷ t) h = (no_line_feed (byte_kind b) h.0, bytes-fit_before b t, bytes-are_cells t h.1)

bytes-not_fold_first : (t : List ℕ) → is_fold_first (map Byte t) ≡ false
bytes-not_fold_first [] = refl
bytes-not_fold_first (b ∷ t) = refl

pub bytes-no_bad_fold : (t : List ℕ) → has_bad_fold (map Byte t) ≡ false
bytes-no_bad_fold [] = refl
bytes-no_bad_fold (b ∷ t) =
    or_from (is_bad_before (Byte b) (map Byte t)) (has_bad_fold (map Byte t))
    (ap (λ z. is_backslash_cell (Byte b) && z) (bytes-not_fold_first t) ∙ and-false (is_backslash_cell (Byte b))) (bytes-no_bad_fold t)

-- the bytes of a text without LF and CR are cells that a line may have
pub bytes-are_line_cells : (t : List ℕ) → HasNoLineEnd t → AreLineCells (map Byte t)
bytes-are_line_cells t h = record { are_cells = bytes-are_cells t h; clean = (bytes-no_line_ends t, bytes-no_bad_fold t) }

-- ---- cells that end a line

-- with this line end, a new line begins after the cells
unfoldable pub EndLine : End → List Cell → Type 0
EndLine e cs = line_state_after InLine (raw_text cs ++ line_end_bytes e) ≡ AtStart

-- if lines follow, a new line begins after the cells with this line end
abbrev pub EndLineBefore : End → List Cell → List (List ℕ) → Type 0
EndLineBefore e cs [] = Unit {0}
EndLineBefore e cs (l ∷ ls) = EndLine e cs

-- a line of these cells and this line end, before the lines that follow it
pub record IsLineOf (l : List ℕ) (cs : List Cell) (e : End) (below : List (List ℕ)) : Type 0 where
  pub same_cells : line_cells l ≡ cs
  pub same_end : line_end l ≡ e
  pub one : OneLine l
  pub ends : EndsBefore l below

-- cells with a line end are one line of these cells, if the line end stays apart from them
pub line-of_cells : (cs : List Cell) (e : End) (below : List (List ℕ)) (b : ℕ) (r : List ℕ) → AreLineCells cs → KeepsApart e (reverse (raw_text cs)) → EndLineBefore e cs below
    → raw_text cs ++ line_end_bytes e ≡ b ∷ r → IsLineOf (raw_text cs ++ line_end_bytes e) cs e below
unfolding EndLine Ends
line-of_cells cs e below b r h k n m =
    let c : cells (raw_text cs) ≡ cs = AreLineCells-cells cs h in
    record {
      same_cells = ap cells (without_line_end-append (raw_text cs) e k) ∙ c;
      same_end = line_end-append (raw_text cs) e k;
      one = one_line-of_cells (raw_text cs) e b r (subst IsClean (sym c) h.clean) m;
      ends = ends below n;
    }
  where
    ends : (below : List (List ℕ)) → EndLineBefore e cs below → EndsBefore (raw_text cs ++ line_end_bytes e) below
    ends [] n = tt
    ends (l ∷ ls) n = ap (line_state_after AtStart) m ∙ (state_after-start b r ∙ (ap (line_state_after InLine) (sym m) ∙ n))

pub one_line-not_empty : (l : List ℕ) → OneLine l → (b : ℕ) × (r : List ℕ) × (l ≡ b ∷ r)
unfolding OneLine
one_line-not_empty [] h = absurd (let g : [] ≡ [] ∷ [] = h in cc)
one_line-not_empty (b ∷ r) h = (b, r, refl)

-- a line ends as its cells do
pub line-ends : (l : List ℕ) (below : List (List ℕ)) → OneLine l → EndsBefore l below → EndLineBefore (line_end l) (line_cells l) below
unfolding EndLine Ends
line-ends l [] o n = tt
line-ends l (m ∷ ls) o n =
    let q = one_line-not_empty l o in
    let same : raw_text (line_cells l) ++ line_end_bytes (line_end l) ≡ l = ap (λ z. z ++ line_end_bytes (line_end l)) (raw_text-cells (without_line_end l)) ∙ without_line_end-line_end l in
    ap (line_state_after InLine) same ∙ (ap (line_state_after InLine) q.2 ∙ (sym (state_after-start q.0 q.1) ∙ (ap (line_state_after AtStart) (sym q.2) ∙ n)))

-- ---- cells that end as others do

-- the state after cells that end in these cells, the first of which makes it the same whatever stood before
state_after-tail : (p : List Cell) (d : Cell) (D : List Cell) → is_reset d ≡ true → AreLineCells (p ++ d ∷ D) → line_state_after InLine (raw_text (p ++ d ∷ D)) ≡ line_state_after InLine (raw_text D)
state_after-tail p d D r h =
    let tail : AreLineCells (d ∷ D) = AreLineCells-right p (d ∷ D) h in
    let split : raw_text (p ++ d ∷ D) ≡ raw_text p ++ raw_text (d ∷ D) = raw_text-append p (d ∷ D) in
    let clean : IsClean (cells (raw_text p ++ raw_text (d ∷ D))) = subst IsClean (sym (ap cells (sym split) ∙ AreLineCells-cells (p ++ d ∷ D) h)) h.clean in
    let after : IsCleanAfter (line_state_after InLine (raw_text p)) (d ∷ D) =
    subst (IsCleanAfter (line_state_after InLine (raw_text p))) (AreLineCells-cells (d ∷ D) tail) (IsCleanAfter-state_after InLine (raw_text p) (raw_text (d ∷ D)) clean) in
    ap (line_state_after InLine) split
    ∙ (state_after-append line_step InLine (raw_text p) (raw_text (d ∷ D))
    ∙ (state_after-append line_step (line_state_after InLine (raw_text p)) (raw_bytes d) (raw_text D)
    ∙ ap (λ s. line_state_after s (raw_text D)) (state_after-reset (line_state_after InLine (raw_text p)) d D r tail.are_cells.0 after)))

-- cells end a line if other cells do that end in the same cells
pub EndLineBefore-tail : (e : End) (p q : List Cell) (d : Cell) (D : List Cell) (below : List (List ℕ)) → is_reset d ≡ true → AreLineCells (p ++ d ∷ D) → AreLineCells (q ++ d ∷ D)
    → EndLineBefore e (p ++ d ∷ D) below → EndLineBefore e (q ++ d ∷ D) below
unfolding EndLine
EndLineBefore-tail e p q d D [] r h k n = tt
EndLineBefore-tail e p q d D (l ∷ ls) r h k n =
    state_after-append line_step InLine (raw_text (q ++ d ∷ D)) (line_end_bytes e)
    ∙ (ap (λ s. line_state_after s (line_end_bytes e)) (state_after-tail q d D r k ∙ sym (state_after-tail p d D r h))
    ∙ (sym (state_after-append line_step InLine (raw_text (p ++ d ∷ D)) (line_end_bytes e)) ∙ n))

-- the state after cells whose last one makes it the same whatever stood before: a blank, a fold or an ordinary byte
state_after-last : (p : List Cell) (d : Cell) → is_reset d ≡ true → AreLineCells (p ++ d ∷ []) → line_state_after InLine (raw_text (p ++ d ∷ [])) ≡ InLine
state_after-last p d r h = state_after-tail p d [] r h

IsCleanAfter-not_at_start : (s : LineState) → IsCleanAfter s [] → s ≡ AtStart → ⊥
IsCleanAfter-not_at_start AtStart h e = h
IsCleanAfter-not_at_start InLine h e = cc
IsCleanAfter-not_at_start AfterOddRun h e = cc
IsCleanAfter-not_at_start AfterOddRunCr h e = cc

line_end-from_in_line : (e : End) (s : LineState) → IsCleanAfter s [] → line_state_after s (line_end_bytes e) ≡ AtStart → line_state_after InLine (line_end_bytes e) ≡ AtStart
line_end-from_in_line None s o h = absurd (IsCleanAfter-not_at_start s o h)
line_end-from_in_line Lf s o h = refl
line_end-from_in_line CrLf s o h = refl

-- if a line of some cells is followed by a line, it has a line end
followed-line_end : (e : End) (cs : List Cell) → AreLineCells cs → EndLine e cs → line_state_after InLine (line_end_bytes e) ≡ AtStart
unfolding EndLine
followed-line_end e cs h n =
    let clean : IsClean (cells (raw_text cs ++ [])) = subst IsClean (sym (ap cells (append-nil (raw_text cs)) ∙ AreLineCells-cells cs h)) h.clean in
    line_end-from_in_line e (line_state_after InLine (raw_text cs)) (IsCleanAfter-state_after InLine (raw_text cs) [] clean)
    (sym (state_after-append line_step InLine (raw_text cs) (line_end_bytes e)) ∙ n)

-- cells that end in a blank, a fold or an ordinary byte end a line if any cells do with this line end
pub EndLineBefore-last : (e : End) (cs p : List Cell) (d : Cell) (below : List (List ℕ)) → is_reset d ≡ true → AreLineCells cs → AreLineCells (p ++ d ∷ [])
    → EndLineBefore e cs below → EndLineBefore e (p ++ d ∷ []) below
unfolding EndLine
EndLineBefore-last e cs p d [] r h k n = tt
EndLineBefore-last e cs p d (l ∷ ls) r h k n =
    state_after-append line_step InLine (raw_text (p ++ d ∷ [])) (line_end_bytes e)
    ∙ (ap (λ s. line_state_after s (line_end_bytes e)) (state_after-last p d r k) ∙ followed-line_end e cs h n)

-- ---- line ends that stay apart

reverse-not_empty : (p : List ℕ) (b : ℕ) (q : List ℕ) → p ≡ b ∷ q → (c : ℕ) × (r : List ℕ) × (reverse p ≡ c ∷ r)
reverse-not_empty p b q h = go (reverse p) refl
  where
    go : (r : List ℕ) → reverse p ≡ r → (c : ℕ) × (s : List ℕ) × (reverse p ≡ c ∷ s)
    go [] e = absurd (let g : reverse (reverse p) ≡ [] = ap reverse e in let k : p ≡ [] = rw (reverse-reverse p) at g in cc)
    go (c ∷ r) e = (c, r, e)

FirstIsNot-same : (k : ByteKind) (p r s t : List ℕ) (b : ℕ) → p ≡ b ∷ r → FirstIsNot k (p ++ s) → FirstIsNot k (p ++ t)
FirstIsNot-same k [] r s t b h n = cc
FirstIsNot-same k (c ∷ p) r s t b h n = n

-- what stands before a text that is not empty does not matter
KeepsApart-same : (e : End) (p r s t : List ℕ) (b : ℕ) → p ≡ b ∷ r → KeepsApart e (p ++ s) → KeepsApart e (p ++ t)
KeepsApart-same None p r s t b h n = FirstIsNot-same LineFeed p r s t b h n
KeepsApart-same Lf p r s t b h n = FirstIsNot-same CarriageReturn p r s t b h n
KeepsApart-same CrLf p r s t b h n = tt

raw_bytes-not_empty : (d : Cell) → is_reset d ≡ true → IsCell d → (b : ℕ) × (r : List ℕ) × (raw_bytes d ≡ b ∷ r)
raw_bytes-not_empty (Byte b) h v = (b, [], refl)
raw_bytes-not_empty (Fold []) h v = absurd (let g : [] ≡ Fold [] ∷ [] = v in cc)
raw_bytes-not_empty (Fold (b ∷ r)) h v = (b, r, refl)
raw_bytes-not_empty (LfEnd r) h v = absurd (cc)
raw_bytes-not_empty (CrLfEnd r) h v = absurd (cc)

raw_text-not_empty : (d : Cell) (D : List Cell) → is_reset d ≡ true → IsCell d → (b : ℕ) × (r : List ℕ) × (raw_text (d ∷ D) ≡ b ∷ r)
raw_text-not_empty d D h v = let n = raw_bytes-not_empty d h v in (n.0, n.1 ++ raw_text D, ap (λ z. z ++ raw_text D) n.2)

-- a line end stays apart from cells if it stays apart from other cells with the same end
pub KeepsApart-tail : (e : End) (p q : List Cell) (d : Cell) (D : List Cell) → is_reset d ≡ true → IsCell d
    → KeepsApart e (reverse (raw_text (p ++ d ∷ D))) → KeepsApart e (reverse (raw_text (q ++ d ∷ D)))
KeepsApart-tail e p q d D r v h =
    let n = raw_text-not_empty d D r v in
    let m = reverse-not_empty (raw_text (d ∷ D)) n.0 n.1 n.2 in
    let split : (a : List Cell) → reverse (raw_text (a ++ d ∷ D)) ≡ reverse (raw_text (d ∷ D)) ++ reverse (raw_text a) =
    λ a. ap reverse (raw_text-append a (d ∷ D)) ∙ reverse-append (raw_text a) (raw_text (d ∷ D)) in
    subst (KeepsApart e) (sym (split q))
    (KeepsApart-same e (reverse (raw_text (d ∷ D))) m.1 (reverse (raw_text p)) (reverse (raw_text q)) m.0 m.2 (subst (KeepsApart e) (split p) h))

reset-no_line_end : (e : End) (k : ByteKind) (b : ℕ) (r : List ℕ) → byte_kind b ≡ k → is_reset_kind k ≡ true → KeepsApart e (b ∷ r)
reset-no_line_end None Blank b r h i = λ x. cc
reset-no_line_end None Ordinary b r h i = λ x. cc
reset-no_line_end Lf Blank b r h i = λ x. cc
reset-no_line_end Lf Ordinary b r h i = λ x. cc
reset-no_line_end CrLf k b r h i = tt
reset-no_line_end None LineFeed b r h i = cc
reset-no_line_end None CarriageReturn b r h i = cc
reset-no_line_end None Backslash b r h i = cc
reset-no_line_end Lf LineFeed b r h i = cc
reset-no_line_end Lf CarriageReturn b r h i = cc
reset-no_line_end Lf Backslash b r h i = cc

-- a line end stays apart from cells that end in a blank or an ordinary byte
pub KeepsApart-last : (e : End) (p : List Cell) (b : ℕ) → is_reset_kind (byte_kind b) ≡ true → KeepsApart e (reverse (raw_text (p ++ Byte b ∷ [])))
KeepsApart-last e p b h =
    subst (KeepsApart e) (sym (ap reverse (raw_text-append p (Byte b ∷ [])) ∙ reverse-append (raw_text p) (b ∷ [])))
    (reset-no_line_end e (byte_kind b) b (reverse (raw_text p)) refl h)

-- the line end of a line stays apart from its cells
pub line-keeps_apart : (l : List ℕ) → KeepsApart (line_end l) (reverse (raw_text (line_cells l)))
line-keeps_apart l = subst (λ z. KeepsApart (line_end l) (reverse z)) (sym (raw_text-cells (without_line_end l))) (line_end-keeps_apart l)
