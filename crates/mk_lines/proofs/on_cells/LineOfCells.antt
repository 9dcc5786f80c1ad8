-- The line that cells make: cells without a line end and without a bad fold are one line.
use Rattle.std.proofs.Common.{◌≡◌, refl, ap, ◌∙◌, ℕ, List, [], ◌∷◌, ◌++◌, Bool, true, false, ◌&&◌, ◌||◌, cond}
use Rattle.std.proofs.lemmas.List.{append-nil}
use Rattle.mk_lines.specs.Lists.{after_leading, Each}
use Rattle.mk_lines.specs.Bytes.{ByteKind, byte_kind, LineFeed, CarriageReturn, Backslash, Blank, Ordinary, is_blank_kind, is_backslash_kind}
use Rattle.mk_lines.specs.Cells.{Cell, Byte, Fold, LfEnd, CrLfEnd, joined_byte, raw_bytes, is_blank_cell, prepend, cells, NoLineEnds}
use Rattle.mk_lines.specs.PhysicalLines.{line_end_bytes}
use Rattle.mk_lines.specs.CellFaults.{has_bad_fold, is_fold_first}
use Rattle.mk_lines.proofs.on_lists.CutLemmas.{one-piece, continues-append}
use Rattle.mk_lines.proofs.on_lines.LineCut.{LineState, AtStart, InLine, AfterOddRun, AfterOddRunCr, next_line_state, is_at_start, line_step, line_begins, line_continuation, line_state_after, next-start, next-not_start}
use Rattle.mk_lines.proofs.on_cells.CellLemmas.{IsCell}
use Rattle.mk_lines.proofs.on_lines.LineLemmas.{OneLine, begins-always}
use Rattle.mk_lines.specs.declared.ends.End.{End}
use Rattle.mk_lines.specs.declared.ends.End.TheVariants.{None, Lf, CrLf}
use Rattle.mk_lines.proofs.on_lists.BoolLemmas.{or-right_false}

-- no line end among cells, and no fold directly after a backslash
abbrev pub IsClean : List Cell → Type 0
IsClean cs = NoLineEnds cs × (has_bad_fold cs ≡ false)

-- clean cells without the first are clean
IsClean-tail : (c : Cell) (cs : List Cell) → IsClean (c ∷ cs) → IsClean cs
IsClean-tail c cs h = (h.0.1, or-right_false (is_backslash_kind (byte_kind (joined_byte c)) && is_fold_first cs) (has_bad_fold cs) h.1)

-- the cells that a text may have in this state of the machine
abbrev pub IsCleanAfter : LineState → List Cell → Type 0
IsCleanAfter AtStart cs = ⊥
IsCleanAfter InLine cs = IsClean cs
IsCleanAfter AfterOddRun [] = Unit {0}
IsCleanAfter AfterOddRun (Byte b ∷ cs) = IsClean (Byte b ∷ cs)
IsCleanAfter AfterOddRun (Fold r ∷ cs) = ⊥
IsCleanAfter AfterOddRun (LfEnd r ∷ cs) = IsClean cs
IsCleanAfter AfterOddRun (CrLfEnd r ∷ cs) = IsClean cs
IsCleanAfter AfterOddRunCr [] = Unit {0}
IsCleanAfter AfterOddRunCr (Byte b ∷ cs) = IsClean (Byte b ∷ cs)
IsCleanAfter AfterOddRunCr (Fold r ∷ cs) = IsClean (Fold r ∷ cs)
IsCleanAfter AfterOddRunCr (LfEnd r ∷ cs) = IsClean cs
IsCleanAfter AfterOddRunCr (CrLfEnd r ∷ cs) = ⊥

blank-is_clean : (c : Cell) (cs : List Cell) → is_blank_cell c ≡ true → IsClean cs → IsClean (c ∷ cs)
blank-is_clean (Byte b) cs h g = ((refl, g.0), go (byte_kind b) h)
  where
    go : (k : ByteKind) → is_blank_kind k ≡ true → ((is_backslash_kind k && is_fold_first cs) || has_bad_fold cs) ≡ false
    go Blank e = g.1
    go LineFeed e = g.1
    go CarriageReturn e = g.1
    go Ordinary e = g.1
    go Backslash e = cc
blank-is_clean (Fold r) cs h g = ((refl, g.0), g.1)
blank-is_clean (LfEnd r) cs h g = cc
blank-is_clean (CrLfEnd r) cs h g = cc

after_leading-is_clean : (cs : List Cell) → IsClean (after_leading is_blank_cell cs) → IsClean cs
after_leading-is_clean [] g = g
after_leading-is_clean (c ∷ cs) g = go (is_blank_cell c) refl g (λ h. after_leading-is_clean cs h)
  where
    go : (s : Bool) → is_blank_cell c ≡ s → IsClean (cond s (after_leading is_blank_cell cs) (c ∷ cs)) → (IsClean (after_leading is_blank_cell cs) → IsClean cs) → IsClean (c ∷ cs)
    go true e h ih = blank-is_clean c cs e (ih h)
    go false e h ih = h

IsClean-none : IsClean []
IsClean-none = (tt, refl)

IsCleanAfter-tail : (s : LineState) (b : ℕ) (cs : List Cell) → IsCleanAfter s (Byte b ∷ cs) → IsClean cs
IsCleanAfter-tail AtStart b cs h = absurd h
IsCleanAfter-tail InLine b cs h = IsClean-tail (Byte b) cs h
IsCleanAfter-tail AfterOddRun b cs h = IsClean-tail (Byte b) cs h
IsCleanAfter-tail AfterOddRunCr b cs h = IsClean-tail (Byte b) cs h

bad_fold-not_clean : (b : ℕ) (r : List ℕ) (cs : List Cell) → byte_kind b ≡ Backslash → IsClean (Byte b ∷ Fold r ∷ cs) → ⊥
bad_fold-not_clean b r cs e h = let g : true ≡ false = rw e at h.1 in cc

-- the step over one byte
IsCleanAfter-step : (s : LineState) (k : ByteKind) (b : ℕ) (cs : List Cell) → byte_kind b ≡ k → IsCleanAfter s (prepend k b cs) → IsCleanAfter (next_line_state s k) cs
IsCleanAfter-step AtStart k b cs e h = absurd h
IsCleanAfter-step InLine LineFeed b cs e h = cc
IsCleanAfter-step AfterOddRun LineFeed b cs e h = after_leading-is_clean cs h
IsCleanAfter-step AfterOddRunCr LineFeed b cs e h = after_leading-is_clean cs h
IsCleanAfter-step InLine CarriageReturn b [] e h = IsClean-none
IsCleanAfter-step InLine CarriageReturn b (Byte x ∷ cs) e h = IsCleanAfter-tail InLine b (Byte x ∷ cs) h
IsCleanAfter-step InLine CarriageReturn b (Fold r ∷ cs) e h = IsCleanAfter-tail InLine b (Fold r ∷ cs) h
IsCleanAfter-step InLine CarriageReturn b (LfEnd r ∷ cs) e h = cc
IsCleanAfter-step InLine CarriageReturn b (CrLfEnd r ∷ cs) e h = IsCleanAfter-tail InLine b (CrLfEnd r ∷ cs) h
IsCleanAfter-step AfterOddRun CarriageReturn b [] e h = tt
IsCleanAfter-step AfterOddRun CarriageReturn b (Byte x ∷ cs) e h = IsCleanAfter-tail AfterOddRun b (Byte x ∷ cs) h
IsCleanAfter-step AfterOddRun CarriageReturn b (Fold r ∷ cs) e h = IsCleanAfter-tail AfterOddRun b (Fold r ∷ cs) h
IsCleanAfter-step AfterOddRun CarriageReturn b (LfEnd r ∷ cs) e h = h
IsCleanAfter-step AfterOddRun CarriageReturn b (CrLfEnd r ∷ cs) e h = let g : false ≡ true = h.0.1.0 in cc
IsCleanAfter-step AfterOddRunCr CarriageReturn b [] e h = IsClean-none
IsCleanAfter-step AfterOddRunCr CarriageReturn b (Byte x ∷ cs) e h = IsCleanAfter-tail AfterOddRunCr b (Byte x ∷ cs) h
IsCleanAfter-step AfterOddRunCr CarriageReturn b (Fold r ∷ cs) e h = IsCleanAfter-tail AfterOddRunCr b (Fold r ∷ cs) h
IsCleanAfter-step AfterOddRunCr CarriageReturn b (LfEnd r ∷ cs) e h = absurd h
IsCleanAfter-step AfterOddRunCr CarriageReturn b (CrLfEnd r ∷ cs) e h = IsCleanAfter-tail AfterOddRunCr b (CrLfEnd r ∷ cs) h
IsCleanAfter-step InLine Backslash b [] e h = tt
IsCleanAfter-step InLine Backslash b (Byte x ∷ cs) e h = IsCleanAfter-tail InLine b (Byte x ∷ cs) h
IsCleanAfter-step InLine Backslash b (Fold r ∷ cs) e h = bad_fold-not_clean b r cs e h
IsCleanAfter-step InLine Backslash b (LfEnd r ∷ cs) e h = IsClean-tail (Fold (b ∷ r)) cs h
IsCleanAfter-step InLine Backslash b (CrLfEnd r ∷ cs) e h = IsClean-tail (Fold (b ∷ r)) cs h
IsCleanAfter-step AfterOddRun Backslash b [] e h = IsClean-none
IsCleanAfter-step AfterOddRun Backslash b (Byte x ∷ cs) e h = IsCleanAfter-tail AfterOddRun b (Byte x ∷ cs) h
IsCleanAfter-step AfterOddRun Backslash b (Fold r ∷ cs) e h = IsCleanAfter-tail AfterOddRun b (Fold r ∷ cs) h
IsCleanAfter-step AfterOddRun Backslash b (LfEnd r ∷ cs) e h = absurd h
IsCleanAfter-step AfterOddRun Backslash b (CrLfEnd r ∷ cs) e h = absurd h
IsCleanAfter-step AfterOddRunCr Backslash b [] e h = tt
IsCleanAfter-step AfterOddRunCr Backslash b (Byte x ∷ cs) e h = IsCleanAfter-tail AfterOddRunCr b (Byte x ∷ cs) h
IsCleanAfter-step AfterOddRunCr Backslash b (Fold r ∷ cs) e h = bad_fold-not_clean b r cs e h
IsCleanAfter-step AfterOddRunCr Backslash b (LfEnd r ∷ cs) e h = IsClean-tail (Fold (b ∷ r)) cs h
IsCleanAfter-step AfterOddRunCr Backslash b (CrLfEnd r ∷ cs) e h = IsClean-tail (Fold (b ∷ r)) cs h
IsCleanAfter-step InLine Blank b [] e h = IsClean-none
IsCleanAfter-step InLine Blank b (Byte x ∷ cs) e h = IsCleanAfter-tail InLine b (Byte x ∷ cs) h
IsCleanAfter-step InLine Blank b (Fold r ∷ cs) e h = h
IsCleanAfter-step InLine Blank b (LfEnd r ∷ cs) e h = IsCleanAfter-tail InLine b (LfEnd r ∷ cs) h
IsCleanAfter-step InLine Blank b (CrLfEnd r ∷ cs) e h = IsCleanAfter-tail InLine b (CrLfEnd r ∷ cs) h
IsCleanAfter-step AfterOddRun Blank b [] e h = IsClean-none
IsCleanAfter-step AfterOddRun Blank b (Byte x ∷ cs) e h = IsCleanAfter-tail AfterOddRun b (Byte x ∷ cs) h
IsCleanAfter-step AfterOddRun Blank b (Fold r ∷ cs) e h = absurd h
IsCleanAfter-step AfterOddRun Blank b (LfEnd r ∷ cs) e h = IsCleanAfter-tail AfterOddRun b (LfEnd r ∷ cs) h
IsCleanAfter-step AfterOddRun Blank b (CrLfEnd r ∷ cs) e h = IsCleanAfter-tail AfterOddRun b (CrLfEnd r ∷ cs) h
IsCleanAfter-step AfterOddRunCr Blank b [] e h = IsClean-none
IsCleanAfter-step AfterOddRunCr Blank b (Byte x ∷ cs) e h = IsCleanAfter-tail AfterOddRunCr b (Byte x ∷ cs) h
IsCleanAfter-step AfterOddRunCr Blank b (Fold r ∷ cs) e h = h
IsCleanAfter-step AfterOddRunCr Blank b (LfEnd r ∷ cs) e h = IsCleanAfter-tail AfterOddRunCr b (LfEnd r ∷ cs) h
IsCleanAfter-step AfterOddRunCr Blank b (CrLfEnd r ∷ cs) e h = IsCleanAfter-tail AfterOddRunCr b (CrLfEnd r ∷ cs) h
IsCleanAfter-step InLine Ordinary b cs e h = IsCleanAfter-tail InLine b cs h
IsCleanAfter-step AfterOddRun Ordinary b cs e h = IsCleanAfter-tail AfterOddRun b cs h
IsCleanAfter-step AfterOddRunCr Ordinary b cs e h = IsCleanAfter-tail AfterOddRunCr b cs h

-- no line begins in a text whose cells are clean
continuation-clean : (s : LineState) (t : List ℕ) → IsCleanAfter s (cells t) → line_continuation s t ≡ t
continuation-clean s [] h = refl
continuation-clean AtStart (b ∷ t) h = absurd h
continuation-clean InLine (b ∷ t) h = ap (λ l. b ∷ l) (continuation-clean (next_line_state InLine (byte_kind b)) t (IsCleanAfter-step InLine (byte_kind b) b (cells t) refl h))
continuation-clean AfterOddRun (b ∷ t) h = ap (λ l. b ∷ l) (continuation-clean (next_line_state AfterOddRun (byte_kind b)) t (IsCleanAfter-step AfterOddRun (byte_kind b) b (cells t) refl h))
continuation-clean AfterOddRunCr (b ∷ t) h = ap (λ l. b ∷ l) (continuation-clean (next_line_state AfterOddRunCr (byte_kind b)) t (IsCleanAfter-step AfterOddRunCr (byte_kind b) b (cells t) refl h))

-- the state after a text, and the cells that the rest may have there
pub IsCleanAfter-state_after : (s : LineState) (a t : List ℕ) → IsCleanAfter s (cells (a ++ t)) → IsCleanAfter (line_state_after s a) (cells t)
IsCleanAfter-state_after s [] t h = h
IsCleanAfter-state_after s (b ∷ a) t h = IsCleanAfter-state_after (next_line_state s (byte_kind b)) a t (IsCleanAfter-step s (byte_kind b) b (cells (a ++ t)) refl h)

-- ---- folds

-- the cells that a text of blanks and folds may have in this state of the machine
abbrev IsBlankAfter : LineState → List Cell → Type 0
IsBlankAfter InLine cs = Each is_blank_cell cs
IsBlankAfter AfterOddRun (LfEnd r ∷ cs) = Each is_blank_cell cs
IsBlankAfter AfterOddRun (CrLfEnd r ∷ cs) = Each is_blank_cell cs
IsBlankAfter AfterOddRunCr (LfEnd r ∷ cs) = Each is_blank_cell cs
IsBlankAfter s cs = ⊥

pub after_leading-each : (cs : List Cell) → Each is_blank_cell (after_leading is_blank_cell cs) → Each is_blank_cell cs
after_leading-each [] h = tt
after_leading-each (c ∷ cs) h = go (is_blank_cell c) refl h (λ k. after_leading-each cs k)
  where
    go : (s : Bool) → is_blank_cell c ≡ s → Each is_blank_cell (cond s (after_leading is_blank_cell cs) (c ∷ cs)) → (Each is_blank_cell (after_leading is_blank_cell cs) → Each is_blank_cell cs) → (is_blank_cell c ≡ true) × Each is_blank_cell cs
    go true e k ih = (e, ih k)
    go false e k ih = k

not_blank : (b : ℕ) (k : ByteKind) → byte_kind b ≡ k → is_blank_kind k ≡ false → is_blank_cell (Byte b) ≡ true → ⊥
not_blank b k e f h = let g : is_blank_kind k ≡ true = rw e at h in cc

IsBlankAfter-step : (s : LineState) (k : ByteKind) (b : ℕ) (cs : List Cell) → byte_kind b ≡ k → IsBlankAfter s (prepend k b cs) → IsBlankAfter (next_line_state s k) cs
IsBlankAfter-step AtStart LineFeed b cs e h = absurd h
IsBlankAfter-step AtStart CarriageReturn b [] e h = absurd h
IsBlankAfter-step AtStart CarriageReturn b (Byte x ∷ cs) e h = absurd h
IsBlankAfter-step AtStart CarriageReturn b (Fold r ∷ cs) e h = absurd h
IsBlankAfter-step AtStart CarriageReturn b (LfEnd r ∷ cs) e h = absurd h
IsBlankAfter-step AtStart CarriageReturn b (CrLfEnd r ∷ cs) e h = absurd h
IsBlankAfter-step AtStart Backslash b [] e h = absurd h
IsBlankAfter-step AtStart Backslash b (Byte x ∷ cs) e h = absurd h
IsBlankAfter-step AtStart Backslash b (Fold r ∷ cs) e h = absurd h
IsBlankAfter-step AtStart Backslash b (LfEnd r ∷ cs) e h = absurd h
IsBlankAfter-step AtStart Backslash b (CrLfEnd r ∷ cs) e h = absurd h
IsBlankAfter-step AtStart Blank b [] e h = absurd h
IsBlankAfter-step AtStart Blank b (Byte x ∷ cs) e h = absurd h
IsBlankAfter-step AtStart Blank b (Fold r ∷ cs) e h = absurd h
IsBlankAfter-step AtStart Blank b (LfEnd r ∷ cs) e h = absurd h
IsBlankAfter-step AtStart Blank b (CrLfEnd r ∷ cs) e h = absurd h
IsBlankAfter-step AtStart Ordinary b cs e h = absurd h
IsBlankAfter-step InLine LineFeed b cs e h = cc
IsBlankAfter-step InLine CarriageReturn b [] e h = absurd (not_blank b CarriageReturn e refl h.0)
IsBlankAfter-step InLine CarriageReturn b (Byte x ∷ cs) e h = absurd (not_blank b CarriageReturn e refl h.0)
IsBlankAfter-step InLine CarriageReturn b (Fold r ∷ cs) e h = absurd (not_blank b CarriageReturn e refl h.0)
IsBlankAfter-step InLine CarriageReturn b (LfEnd r ∷ cs) e h = cc
IsBlankAfter-step InLine CarriageReturn b (CrLfEnd r ∷ cs) e h = absurd (not_blank b CarriageReturn e refl h.0)
IsBlankAfter-step InLine Backslash b [] e h = absurd (not_blank b Backslash e refl h.0)
IsBlankAfter-step InLine Backslash b (Byte x ∷ cs) e h = absurd (not_blank b Backslash e refl h.0)
IsBlankAfter-step InLine Backslash b (Fold r ∷ cs) e h = absurd (not_blank b Backslash e refl h.0)
IsBlankAfter-step InLine Backslash b (LfEnd r ∷ cs) e h = h.1
IsBlankAfter-step InLine Backslash b (CrLfEnd r ∷ cs) e h = h.1
IsBlankAfter-step InLine Blank b [] e h = tt
IsBlankAfter-step InLine Blank b (Byte x ∷ cs) e h = h.1
IsBlankAfter-step InLine Blank b (Fold r ∷ cs) e h = h
IsBlankAfter-step InLine Blank b (LfEnd r ∷ cs) e h = h.1
IsBlankAfter-step InLine Blank b (CrLfEnd r ∷ cs) e h = h.1
IsBlankAfter-step InLine Ordinary b cs e h = absurd (not_blank b Ordinary e refl h.0)
IsBlankAfter-step AfterOddRun LineFeed b cs e h = after_leading-each cs h
IsBlankAfter-step AfterOddRun CarriageReturn b [] e h = absurd h
IsBlankAfter-step AfterOddRun CarriageReturn b (Byte x ∷ cs) e h = absurd h
IsBlankAfter-step AfterOddRun CarriageReturn b (Fold r ∷ cs) e h = absurd h
IsBlankAfter-step AfterOddRun CarriageReturn b (LfEnd r ∷ cs) e h = h
IsBlankAfter-step AfterOddRun CarriageReturn b (CrLfEnd r ∷ cs) e h = absurd h
IsBlankAfter-step AfterOddRun Backslash b [] e h = absurd h
IsBlankAfter-step AfterOddRun Backslash b (Byte x ∷ cs) e h = absurd h
IsBlankAfter-step AfterOddRun Backslash b (Fold r ∷ cs) e h = absurd h
IsBlankAfter-step AfterOddRun Backslash b (LfEnd r ∷ cs) e h = absurd h
IsBlankAfter-step AfterOddRun Backslash b (CrLfEnd r ∷ cs) e h = absurd h
IsBlankAfter-step AfterOddRun Blank b [] e h = absurd h
IsBlankAfter-step AfterOddRun Blank b (Byte x ∷ cs) e h = absurd h
IsBlankAfter-step AfterOddRun Blank b (Fold r ∷ cs) e h = absurd h
IsBlankAfter-step AfterOddRun Blank b (LfEnd r ∷ cs) e h = absurd h
IsBlankAfter-step AfterOddRun Blank b (CrLfEnd r ∷ cs) e h = absurd h
IsBlankAfter-step AfterOddRun Ordinary b cs e h = absurd h
IsBlankAfter-step AfterOddRunCr LineFeed b cs e h = after_leading-each cs h
IsBlankAfter-step AfterOddRunCr CarriageReturn b [] e h = absurd h
IsBlankAfter-step AfterOddRunCr CarriageReturn b (Byte x ∷ cs) e h = absurd h
IsBlankAfter-step AfterOddRunCr CarriageReturn b (Fold r ∷ cs) e h = absurd h
IsBlankAfter-step AfterOddRunCr CarriageReturn b (LfEnd r ∷ cs) e h = absurd h
IsBlankAfter-step AfterOddRunCr CarriageReturn b (CrLfEnd r ∷ cs) e h = absurd h
IsBlankAfter-step AfterOddRunCr Backslash b [] e h = absurd h
IsBlankAfter-step AfterOddRunCr Backslash b (Byte x ∷ cs) e h = absurd h
IsBlankAfter-step AfterOddRunCr Backslash b (Fold r ∷ cs) e h = absurd h
IsBlankAfter-step AfterOddRunCr Backslash b (LfEnd r ∷ cs) e h = absurd h
IsBlankAfter-step AfterOddRunCr Backslash b (CrLfEnd r ∷ cs) e h = absurd h
IsBlankAfter-step AfterOddRunCr Blank b [] e h = absurd h
IsBlankAfter-step AfterOddRunCr Blank b (Byte x ∷ cs) e h = absurd h
IsBlankAfter-step AfterOddRunCr Blank b (Fold r ∷ cs) e h = absurd h
IsBlankAfter-step AfterOddRunCr Blank b (LfEnd r ∷ cs) e h = absurd h
IsBlankAfter-step AfterOddRunCr Blank b (CrLfEnd r ∷ cs) e h = absurd h
IsBlankAfter-step AfterOddRunCr Ordinary b cs e h = absurd h

state_after-blank : (s : LineState) (t : List ℕ) → IsBlankAfter s (cells t) → line_state_after s t ≡ InLine
state_after-blank AtStart [] h = absurd h
state_after-blank InLine [] h = refl
state_after-blank AfterOddRun [] h = absurd h
state_after-blank AfterOddRunCr [] h = absurd h
state_after-blank s (b ∷ t) h = state_after-blank (next_line_state s (byte_kind b)) t (IsBlankAfter-step s (byte_kind b) b (cells t) refl h)

-- a fold's raw bytes begin with a blank or a backslash, after which the state is the same with or without a CR before it
state_after-fold : (r s : List ℕ) → cells r ≡ Fold s ∷ [] → line_state_after AfterOddRunCr r ≡ line_state_after InLine r
state_after-fold [] s h = cc
state_after-fold (b ∷ r) s h = go (byte_kind b) (cells r) h
  where
    go : (k : ByteKind) (cs : List Cell) → prepend k b cs ≡ Fold s ∷ [] → line_state_after (next_line_state AfterOddRunCr k) r ≡ line_state_after (next_line_state InLine k) r
    go LineFeed cs e = cc
    go CarriageReturn cs e = refl
    go Backslash cs e = refl
    go Blank cs e = refl
    go Ordinary cs e = refl

-- whether the state after a byte of this kind is the same whatever stood before it
abbrev pub is_reset_kind : ByteKind → Bool
is_reset_kind Blank = true
is_reset_kind Ordinary = true
is_reset_kind k = false

-- whether the state after a cell is the same whatever stood before it: the cell is a blank, a fold or an ordinary byte
abbrev pub is_reset : Cell → Bool
is_reset (Byte b) = is_reset_kind (byte_kind b)
is_reset (Fold r) = true
is_reset c = false

-- after such a cell a text stands in a line
pub state_after-reset : (s : LineState) (d : Cell) (D : List Cell) → is_reset d ≡ true → IsCell d → IsCleanAfter s (d ∷ D) → line_state_after s (raw_bytes d) ≡ InLine
state_after-reset s (Byte b) D h v o = go s (byte_kind b) h
  where
    go : (s : LineState) (k : ByteKind) → is_reset_kind k ≡ true → next_line_state s k ≡ InLine
    go s LineFeed h = cc
    go s CarriageReturn h = cc
    go s Backslash h = cc
    go AtStart Blank h = refl
    go InLine Blank h = refl
    go AfterOddRun Blank h = refl
    go AfterOddRunCr Blank h = refl
    go AtStart Ordinary h = refl
    go InLine Ordinary h = refl
    go AfterOddRun Ordinary h = refl
    go AfterOddRunCr Ordinary h = refl
state_after-reset AtStart (Fold r) D h v o = absurd o
state_after-reset InLine (Fold r) D h v o = state_after-blank InLine r (rw v (refl, tt))
state_after-reset AfterOddRun (Fold r) D h v o = absurd o
state_after-reset AfterOddRunCr (Fold r) D h v o = state_after-fold r r v ∙ state_after-blank InLine r (rw v (refl, tt))
state_after-reset s (LfEnd r) D h v o = cc
state_after-reset s (CrLfEnd r) D h v o = cc

-- ---- the line

continuation-line_end : (s : LineState) (e : End) → is_at_start s ≡ false → line_continuation s (line_end_bytes e) ≡ line_end_bytes e
continuation-line_end s None h = refl
continuation-line_end s Lf h = rw h refl
continuation-line_end s CrLf h = rw (h, next-not_start s CarriageReturn (λ k. cc)) refl

IsCleanAfter-not_start : (s : LineState) → IsCleanAfter s [] → is_at_start s ≡ false
IsCleanAfter-not_start AtStart h = absurd h
IsCleanAfter-not_start InLine h = refl
IsCleanAfter-not_start AfterOddRun h = refl
IsCleanAfter-not_start AfterOddRunCr h = refl

-- a text in which no line begins, and which does not end a line, is one line together with a line end, if the two are not empty
pub one_line-of_text : (x : List ℕ) (e : End) (b : ℕ) (r : List ℕ) → line_continuation InLine x ≡ x → is_at_start (line_state_after InLine x) ≡ false → x ++ line_end_bytes e ≡ b ∷ r
    → OneLine (x ++ line_end_bytes e)
unfolding OneLine
one_line-of_text x e b r g n h =
    let i : line_continuation InLine (x ++ line_end_bytes e) ≡ x ++ line_end_bytes e = continues-append line_step line_begins InLine x (line_end_bytes e) g (continuation-line_end (line_state_after InLine x) e n) in
    let j : line_continuation InLine (b ∷ r) ≡ b ∷ r = rw h at i in
    let l : line_continuation (next_line_state InLine (byte_kind b)) r ≡ r = cc in
    rw h (one-piece line_step line_begins AtStart begins-always b r (rw (next-start (byte_kind b)) l))

-- a text with clean cells and a line end are one line, if they are not empty
pub one_line-of_cells : (x : List ℕ) (e : End) (b : ℕ) (r : List ℕ) → IsClean (cells x) → x ++ line_end_bytes e ≡ b ∷ r → OneLine (x ++ line_end_bytes e)
one_line-of_cells x e b r g h =
    let n : IsCleanAfter (line_state_after InLine x) (cells []) = IsCleanAfter-state_after InLine x [] (rw (append-nil x) g) in
    one_line-of_text x e b r (continuation-clean InLine x g) (IsCleanAfter-not_start (line_state_after InLine x) n) h
