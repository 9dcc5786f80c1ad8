-- The cells of a logical line are bytes and folds: the text of one line has no line end except in its folds.
use Rattle.std.proofs.Common.{◌≡◌, refl, sym, ap, ◌∙◌, ℕ, List, [], ◌∷◌, ◌++◌, Bool, true, false, cond, reverse}
use Rattle.mk_lines.specs.Lists.{after_leading}
use Rattle.mk_lines.specs.Bytes.{ByteKind, byte_kind, LineFeed, CarriageReturn, Backslash, Blank, Ordinary}
use Rattle.mk_lines.specs.PhysicalLines.{line_end, line_end_bytes, without_line_end}
use Rattle.mk_lines.specs.Cells.{Cell, Byte, Fold, LfEnd, CrLfEnd, is_blank_cell, prepend, cells, line_cells, NoLineEnds}
use Rattle.mk_lines.proofs.on_lists.CutLemmas.{continues-left, continues-right}
use Rattle.mk_lines.proofs.on_lines.LineCut.{LineState, AtStart, InLine, AfterOddRun, AfterOddRunCr, next_line_state, is_at_start, line_step, line_begins, line_continuation, line_state_after, line_state_backwards, line_state_after-reverse, next-start, next-not_start}
use Rattle.mk_lines.proofs.on_lines.LineLemmas.{OneLine}
use Rattle.mk_lines.proofs.on_lines.LineEndLemmas.{KeepsApart, FirstIsNot, without_line_end-line_end, line_end-keeps_apart}
use Rattle.mk_lines.specs.declared.ends.End.{End}
use Rattle.mk_lines.specs.declared.ends.End.TheVariants.{None, Lf, CrLf}

-- the cells that a text in a line may have in this state of the machine: what stands before a line end escapes it
abbrev AreFolded : LineState → List Cell → Type 0
AreFolded AtStart cs = Unit {0}
AreFolded InLine cs = NoLineEnds cs
AreFolded AfterOddRun [] = Unit {0}
AreFolded AfterOddRun (Byte b ∷ cs) = NoLineEnds cs
AreFolded AfterOddRun (Fold r ∷ cs) = NoLineEnds cs
AreFolded AfterOddRun (LfEnd r ∷ cs) = NoLineEnds cs
AreFolded AfterOddRun (CrLfEnd r ∷ cs) = NoLineEnds cs
AreFolded AfterOddRunCr [] = Unit {0}
AreFolded AfterOddRunCr (Byte b ∷ cs) = NoLineEnds cs
AreFolded AfterOddRunCr (Fold r ∷ cs) = NoLineEnds cs
AreFolded AfterOddRunCr (LfEnd r ∷ cs) = NoLineEnds cs
AreFolded AfterOddRunCr (CrLfEnd r ∷ cs) = ⊥

after_leading-no_line_ends : (cs : List Cell) → NoLineEnds cs → NoLineEnds (after_leading is_blank_cell cs)
after_leading-no_line_ends [] h = tt
after_leading-no_line_ends (c ∷ cs) h = go (is_blank_cell c) (after_leading-no_line_ends cs h.1)
  where
    go : (b : Bool) → NoLineEnds (after_leading is_blank_cell cs) → NoLineEnds (cond b (after_leading is_blank_cell cs) (c ∷ cs))
    go true k = k
    go false k = h

-- a byte that is no line feed before cells without line ends
byte_before : (k : ByteKind) (b : ℕ) (cs : List Cell) → (k ≡ LineFeed → ⊥) → NoLineEnds cs → NoLineEnds (prepend k b cs)
byte_before LineFeed b cs n h = absurd (n refl)
byte_before CarriageReturn b [] n h = (refl, h)
byte_before CarriageReturn b (Byte x ∷ cs) n h = (refl, h)
byte_before CarriageReturn b (Fold r ∷ cs) n h = (refl, h)
byte_before CarriageReturn b (LfEnd r ∷ cs) n h = cc
byte_before CarriageReturn b (CrLfEnd r ∷ cs) n h = cc
byte_before Backslash b [] n h = (refl, h)
byte_before Backslash b (Byte x ∷ cs) n h = (refl, h)
byte_before Backslash b (Fold r ∷ cs) n h = (refl, h)
byte_before Backslash b (LfEnd r ∷ cs) n h = cc
byte_before Backslash b (CrLfEnd r ∷ cs) n h = cc
byte_before Blank b [] n h = (refl, h)
byte_before Blank b (Byte x ∷ cs) n h = (refl, h)
byte_before Blank b (Fold r ∷ cs) n h = (refl, h.1)
byte_before Blank b (LfEnd r ∷ cs) n h = cc
byte_before Blank b (CrLfEnd r ∷ cs) n h = cc
byte_before Ordinary b cs n h = (refl, h)

no_line_ends-after_run : (cs : List Cell) → NoLineEnds cs → AreFolded AfterOddRun cs
no_line_ends-after_run [] h = tt
no_line_ends-after_run (Byte b ∷ cs) h = h.1
no_line_ends-after_run (Fold r ∷ cs) h = h.1
no_line_ends-after_run (LfEnd r ∷ cs) h = cc
no_line_ends-after_run (CrLfEnd r ∷ cs) h = cc

no_line_ends-after_cr : (cs : List Cell) → NoLineEnds cs → AreFolded AfterOddRunCr cs
no_line_ends-after_cr [] h = tt
no_line_ends-after_cr (Byte b ∷ cs) h = h.1
no_line_ends-after_cr (Fold r ∷ cs) h = h.1
no_line_ends-after_cr (LfEnd r ∷ cs) h = cc
no_line_ends-after_cr (CrLfEnd r ∷ cs) h = cc

-- a backslash takes the line end after it into a fold
backslash_before : (b : ℕ) (cs : List Cell) → AreFolded AfterOddRun cs → NoLineEnds (prepend Backslash b cs)
backslash_before b [] h = (refl, tt)
backslash_before b (Byte x ∷ cs) h = (refl, (refl, h))
backslash_before b (Fold r ∷ cs) h = (refl, (refl, h))
backslash_before b (LfEnd r ∷ cs) h = (refl, h)
backslash_before b (CrLfEnd r ∷ cs) h = (refl, h)

-- a carriage return between a backslash and a line feed goes to the line end
carriage_return_before : (b : ℕ) (cs : List Cell) → AreFolded AfterOddRunCr cs → AreFolded AfterOddRun (prepend CarriageReturn b cs)
carriage_return_before b [] h = tt
carriage_return_before b (Byte x ∷ cs) h = (refl, h)
carriage_return_before b (Fold r ∷ cs) h = (refl, h)
carriage_return_before b (LfEnd r ∷ cs) h = h
carriage_return_before b (CrLfEnd r ∷ cs) h = absurd h

AreFolded-before : (s : LineState) (k : ByteKind) (b : ℕ) (cs : List Cell) → is_at_start (next_line_state s k) ≡ false → AreFolded (next_line_state s k) cs → AreFolded s (prepend k b cs)
AreFolded-before AtStart k b cs n h = tt
AreFolded-before InLine LineFeed b cs n h = cc
AreFolded-before InLine CarriageReturn b cs n h = byte_before CarriageReturn b cs (λ x. cc) h
AreFolded-before InLine Backslash b cs n h = backslash_before b cs h
AreFolded-before InLine Blank b cs n h = byte_before Blank b cs (λ x. cc) h
AreFolded-before InLine Ordinary b cs n h = byte_before Ordinary b cs (λ x. cc) h
AreFolded-before AfterOddRun LineFeed b cs n h = after_leading-no_line_ends cs h
AreFolded-before AfterOddRun CarriageReturn b cs n h = carriage_return_before b cs h
AreFolded-before AfterOddRun Backslash b cs n h = no_line_ends-after_run (prepend Backslash b cs) (byte_before Backslash b cs (λ x. cc) h)
AreFolded-before AfterOddRun Blank b cs n h = no_line_ends-after_run (prepend Blank b cs) (byte_before Blank b cs (λ x. cc) h)
AreFolded-before AfterOddRun Ordinary b cs n h = no_line_ends-after_run (prepend Ordinary b cs) (byte_before Ordinary b cs (λ x. cc) h)
AreFolded-before AfterOddRunCr LineFeed b cs n h = after_leading-no_line_ends cs h
AreFolded-before AfterOddRunCr CarriageReturn b cs n h = no_line_ends-after_cr (prepend CarriageReturn b cs) (byte_before CarriageReturn b cs (λ x. cc) h)
AreFolded-before AfterOddRunCr Backslash b cs n h = no_line_ends-after_cr (prepend Backslash b cs) (backslash_before b cs h)
AreFolded-before AfterOddRunCr Blank b cs n h = no_line_ends-after_cr (prepend Blank b cs) (byte_before Blank b cs (λ x. cc) h)
AreFolded-before AfterOddRunCr Ordinary b cs n h = no_line_ends-after_cr (prepend Ordinary b cs) (byte_before Ordinary b cs (λ x. cc) h)

folded-none : (s : LineState) → AreFolded s []
folded-none AtStart = tt
folded-none InLine = tt
folded-none AfterOddRun = tt
folded-none AfterOddRunCr = tt

-- a text in which no line begins, and which does not end one
in_line-folded : (s : LineState) (t : List ℕ) → line_continuation s t ≡ t → is_at_start (line_state_after s t) ≡ false → AreFolded s (cells t)
in_line-folded s [] h n = folded-none s
in_line-folded s (b ∷ t) h n = go (is_at_start s) h (λ k. in_line-folded (line_step s b) t k n)
  where
    goes_on : (t : List ℕ) (s : LineState) → line_continuation s t ≡ t → is_at_start (line_state_after s t) ≡ false → is_at_start s ≡ false
    goes_on [] s k m = m
    goes_on (c ∷ t) s k m = at (is_at_start s) k
      where
        at : (a : Bool) → cond a [] (c ∷ line_continuation (line_step s c) t) ≡ c ∷ t → a ≡ false
        at true e = cc
        at false e = refl

    go : (a : Bool) → cond a [] (b ∷ line_continuation (line_step s b) t) ≡ b ∷ t → (line_continuation (line_step s b) t ≡ t → AreFolded (line_step s b) (cells t)) → AreFolded s (prepend (byte_kind b) b (cells t))
    go true e ih = cc
    go false e ih = let k : line_continuation (line_step s b) t ≡ t = cc in AreFolded-before s (byte_kind b) b (cells t) (goes_on t (line_step s b) k n) (ih k)

-- ---- of one line

-- in one line, a line begins only at its front
pub one_line-continues : (b : ℕ) (r : List ℕ) → OneLine (b ∷ r) → line_continuation InLine (b ∷ r) ≡ b ∷ r
unfolding OneLine
one_line-continues b r h =
    let e : line_continuation (next_line_state AtStart (byte_kind b)) r ≡ r = cc in
    ap (λ z. b ∷ z) (ap (λ s. line_continuation s r) (sym (next-start (byte_kind b))) ∙ e)

-- no line begins after a text whose last byte is no line feed
last-not_at_start : (r : List ℕ) → FirstIsNot LineFeed r → is_at_start (line_state_backwards r) ≡ false
last-not_at_start [] h = refl
last-not_at_start (b ∷ r) h = next-not_start (line_state_backwards r) (byte_kind b) h

begun : (s : LineState) (b : ℕ) (t : List ℕ) → line_continuation s (b ∷ t) ≡ b ∷ t → is_at_start s ≡ false
begun s b t h = go (is_at_start s) h
  where
    go : (a : Bool) → cond a [] (b ∷ line_continuation (line_step s b) t) ≡ b ∷ t → a ≡ false
    go true e = cc
    go false e = refl

-- the text of a line does not end one
not_at_start : (x : List ℕ) (e : End) → line_continuation InLine (x ++ line_end_bytes e) ≡ x ++ line_end_bytes e → KeepsApart e (reverse x) → is_at_start (line_state_after InLine x) ≡ false
not_at_start x None h k = ap is_at_start (line_state_after-reverse x) ∙ last-not_at_start (reverse x) k
not_at_start x Lf h k = begun (line_state_after InLine x) 10 [] (continues-right line_step line_begins InLine x (10 ∷ []) h)
not_at_start x CrLf h k = begun (line_state_after InLine x) 13 (10 ∷ []) (continues-right line_step line_begins InLine x (13 ∷ 10 ∷ []) h)

-- the cells of a logical line have no line end among them
pub one_line-no_line_ends : (l : List ℕ) → OneLine l → NoLineEnds (line_cells l)
unfolding OneLine
one_line-no_line_ends [] h = absurd (let g : [] ≡ [] ∷ [] = h in cc)
one_line-no_line_ends (b ∷ r) h =
    let l = b ∷ r in
    let x = without_line_end l in
    let e = line_end l in
    let whole : line_continuation InLine (x ++ line_end_bytes e) ≡ x ++ line_end_bytes e =
    ap (line_continuation InLine) (without_line_end-line_end l) ∙ (one_line-continues b r h ∙ sym (without_line_end-line_end l)) in
    in_line-folded InLine x (continues-left line_step line_begins InLine x (line_end_bytes e) whole) (not_at_start x e whole (line_end-keeps_apart l))
