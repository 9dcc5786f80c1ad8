-- A last line that is not open, and a line end put after it: one line of the same text, after which a new one begins.
use Rattle.std.proofs.Common.{◌≡◌, refl, sym, ap, ◌∙◌, ℕ, List, [], ◌∷◌, ◌++◌, Bool, true, false, not, ◌&&◌, reverse}
use Rattle.std.proofs.lemmas.List.{reverse-reverse}
use Rattle.mk_lines.specs.Bytes.{ByteKind, byte_kind, LineFeed, CarriageReturn, Backslash, Blank, Ordinary, is_carriage_return_kind}
use Rattle.mk_lines.specs.PhysicalLines.{line_end, line_end_backwards, line_end_at, line_end_by, line_end_bytes, without_line_end, drop_line_end, is_carriage_return_first, ends_with_carriage_return}
use Rattle.mk_lines.specs.LogicalLines.{starts_with_odd_run, is_continued, has_no_line_end, ends_line, is_open}
use Rattle.mk_lines.proofs.on_lists.CutLemmas.{state_after-append}
use Rattle.mk_lines.proofs.on_lines.LineCut.{LineState, AtStart, InLine, AfterOddRun, AfterOddRunCr, next_line_state, is_at_start, is_after_odd_run, line_state_backwards, line_step, line_state_after, line_state_after-reverse, odd_run-state}
use Rattle.mk_lines.proofs.on_lines.LineLemmas.{OneLine, Ends}
use Rattle.mk_lines.proofs.on_lines.LineEndLemmas.{KeepsApart, FirstIsNot, drop_line_end-none, without_line_end-append, line_end-append, state_after-start}
use Rattle.mk_lines.proofs.on_cells.LineOfCells.{one_line-of_text}
use Rattle.mk_lines.proofs.on_cells.CellsOfLine.{one_line-continues}
use Rattle.mk_lines.specs.declared.ends.End.{End}
use Rattle.mk_lines.specs.declared.ends.End.TheVariants.{None, Lf, CrLf}
use Rattle.mk_lines.proofs.on_lists.BoolLemmas.{or-left_false, or-right_false}

-- a line that is not open and has a line end ends a line
pub not_open-ends_line : (b : ℕ) (t : List ℕ) → is_open (b ∷ t) ≡ false → has_no_line_end (line_end (b ∷ t)) ≡ false → ends_line (b ∷ t) ≡ true
not_open-ends_line b t h k =
    ap (λ z. not z && not (is_continued (b ∷ t))) k
    ∙ ap not (or-left_false (is_continued (b ∷ t)) (has_no_line_end (line_end (b ∷ t)) && ends_with_carriage_return (b ∷ t)) h)

no_line_feed_last : (r : List ℕ) → line_end_backwards r ≡ None → FirstIsNot LineFeed r
no_line_feed_last [] h = tt
no_line_feed_last (b ∷ r) h = go (byte_kind b) h
  where
    some : (c : Bool) → line_end_by c ≡ None → ⊥
    some true e = cc
    some false e = cc

    go : (k : ByteKind) → line_end_at k r ≡ None → k ≡ LineFeed → ⊥
    go LineFeed e x = some (is_carriage_return_first r) e
    go CarriageReturn e x = cc
    go Backslash e x = cc
    go Blank e x = cc
    go Ordinary e x = cc

no_carriage_return_last : (r : List ℕ) → is_carriage_return_first r ≡ false → FirstIsNot CarriageReturn r
no_carriage_return_last [] h = tt
no_carriage_return_last (b ∷ r) h = go (byte_kind b) h
  where
    go : (k : ByteKind) → is_carriage_return_kind k ≡ false → k ≡ CarriageReturn → ⊥
    go CarriageReturn e x = cc
    go LineFeed e x = cc
    go Backslash e x = cc
    go Blank e x = cc
    go Ordinary e x = cc

in_line : (s : LineState) (k : ByteKind) → (k ≡ LineFeed → ⊥) → (k ≡ CarriageReturn → ⊥) → is_after_odd_run (next_line_state s k) ≡ false → next_line_state s k ≡ InLine
in_line s LineFeed h i j = absurd (h refl)
in_line s CarriageReturn h i j = absurd (i refl)
in_line AtStart Backslash h i j = cc
in_line InLine Backslash h i j = cc
in_line AfterOddRun Backslash h i j = refl
in_line AfterOddRunCr Backslash h i j = cc
in_line AtStart Blank h i j = refl
in_line InLine Blank h i j = refl
in_line AfterOddRun Blank h i j = refl
in_line AfterOddRunCr Blank h i j = refl
in_line AtStart Ordinary h i j = refl
in_line InLine Ordinary h i j = refl
in_line AfterOddRun Ordinary h i j = refl
in_line AfterOddRunCr Ordinary h i j = refl

in_line-backwards : (r : List ℕ) → FirstIsNot LineFeed r → FirstIsNot CarriageReturn r → starts_with_odd_run r ≡ false → line_state_backwards r ≡ InLine
in_line-backwards [] h i j = refl
in_line-backwards (b ∷ r) h i j = in_line (line_state_backwards r) (byte_kind b) h i (sym (odd_run-state (b ∷ r)) ∙ j)

-- what holds for a line with a line end put after it
pub record IsEnded (l : List ℕ) (e : End) : Type 0 where
  pub one : OneLine (l ++ line_end_bytes e)
  pub ends : Ends (l ++ line_end_bytes e)
  pub same_text : without_line_end (l ++ line_end_bytes e) ≡ l
  pub same_end : line_end (l ++ line_end_bytes e) ≡ e

after_line_end : (e : End) → has_no_line_end e ≡ false → line_state_after InLine (line_end_bytes e) ≡ AtStart
after_line_end None h = cc
after_line_end Lf h = refl
after_line_end CrLf h = refl

apart_from : (e : End) (r : List ℕ) → has_no_line_end e ≡ false → FirstIsNot CarriageReturn r → KeepsApart e r
apart_from None r h k = cc
apart_from Lf r h k = k
apart_from CrLf r h k = tt

-- a line end put after a line that has none and is not open
pub line_end-added : (b : ℕ) (t : List ℕ) (e : End) → OneLine (b ∷ t) → line_end (b ∷ t) ≡ None → is_open (b ∷ t) ≡ false → has_no_line_end e ≡ false → IsEnded (b ∷ t) e
unfolding Ends
line_end-added b t e o n h k =
    let l = b ∷ t in
    let r = reverse l in
    let lf : FirstIsNot LineFeed r = no_line_feed_last r n in
    let cr : FirstIsNot CarriageReturn r =
    no_carriage_return_last r (ap (λ z. has_no_line_end z && ends_with_carriage_return l) (sym n) ∙ or-right_false (is_continued l) (has_no_line_end (line_end l) && ends_with_carriage_return l) h) in
    let run : starts_with_odd_run r ≡ false =
    ap starts_with_odd_run (sym (reverse-reverse (drop_line_end r) ∙ drop_line_end-none r lf)) ∙ or-left_false (is_continued l) (has_no_line_end (line_end l) && ends_with_carriage_return l) h in
    let s : line_state_after InLine l ≡ InLine = line_state_after-reverse l ∙ in_line-backwards r lf cr run in
    let apart : KeepsApart e r = apart_from e r k cr in
    record {
      one = one_line-of_text l e b (t ++ line_end_bytes e) (one_line-continues b t o) (ap is_at_start s) refl;
      ends = state_after-start b (t ++ line_end_bytes e) ∙ (state_after-append line_step InLine l (line_end_bytes e) ∙ (ap (λ z. line_state_after z (line_end_bytes e)) s ∙ after_line_end e k));
      same_text = without_line_end-append l e apart;
      same_end = line_end-append l e apart;
    }
