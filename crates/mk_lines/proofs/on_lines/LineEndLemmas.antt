-- Laws of line ends: a line is its text and its line end, and a text ends a line if it has a line end and is not continued.
use Rattle.std.proofs.Common.{◌≡◌, refl, sym, ap, ◌∙◌, ℕ, List, [], ◌∷◌, ◌++◌, Bool, true, false, not, ◌&&◌, reverse}
use Rattle.std.proofs.lemmas.List.{append-nil, reverse-append, reverse-reverse}
use Rattle.mk_lines.specs.Bytes.{ByteKind, byte_kind, LineFeed, CarriageReturn, Backslash, Blank, Ordinary, is_carriage_return_kind}
use Rattle.mk_lines.proofs.on_lists.ByteLemmas.{line_feed-byte, carriage_return-byte}
use Rattle.mk_lines.specs.PhysicalLines.{line_end, line_end_backwards, line_end_at, line_end_by, line_end_bytes, without_line_end, drop_line_end, drop_line_end_at, drop_carriage_return, drop_carriage_return_at, is_carriage_return_first}
use Rattle.mk_lines.specs.LogicalLines.{starts_with_odd_run, has_no_line_end, ends_line, EndsWhereFollowed}
use Rattle.mk_lines.proofs.on_lines.LineCut.{LineState, AtStart, InLine, AfterOddRun, AfterOddRunCr, next_line_state, is_at_start, is_continued_state, line_state_backwards, line_state_after, line_state_after-reverse, drop_carriage_return-state, next-start, next-not_start}
use Rattle.mk_lines.proofs.on_lines.LineLemmas.{Ends, EndsBefore, is_at_start-is}
use Rattle.mk_lines.specs.declared.ends.End.{End}
use Rattle.mk_lines.specs.declared.ends.End.TheVariants.{None, Lf, CrLf}

-- ---- a line is its text and its line end

text-line_end_backwards : (r : List ℕ) → reverse (drop_line_end r) ++ line_end_bytes (line_end_backwards r) ≡ reverse r
text-line_end_backwards [] = refl
text-line_end_backwards (b ∷ r) = go (byte_kind b) refl
  where
    alone : (b : ℕ) (t : List ℕ) → reverse (b ∷ t) ++ [] ≡ reverse (b ∷ t)
    alone b t = append-nil (reverse (b ∷ t))

    after_line_feed : (r : List ℕ) → b ≡ 10 → reverse (drop_carriage_return r) ++ line_end_bytes (line_end_by (is_carriage_return_first r)) ≡ reverse (b ∷ r)
    after_line_feed [] e = rw e refl
    after_line_feed (c ∷ r) e = at (byte_kind c) refl
      where
        at : (k : ByteKind) → byte_kind c ≡ k → reverse (drop_carriage_return_at k c r) ++ line_end_bytes (line_end_by (is_carriage_return_kind k)) ≡ reverse (b ∷ c ∷ r)
        at CarriageReturn h = rw (e, carriage_return-byte c h, reverse-append (10 ∷ 13 ∷ []) r) refl
        at LineFeed h = rw (e, reverse-append (10 ∷ []) (c ∷ r)) refl
        at Backslash h = rw (e, reverse-append (10 ∷ []) (c ∷ r)) refl
        at Blank h = rw (e, reverse-append (10 ∷ []) (c ∷ r)) refl
        at Ordinary h = rw (e, reverse-append (10 ∷ []) (c ∷ r)) refl

    go : (k : ByteKind) → byte_kind b ≡ k → reverse (drop_line_end_at k b r) ++ line_end_bytes (line_end_at k r) ≡ reverse (b ∷ r)
    go LineFeed h = after_line_feed r (line_feed-byte b h)
    go CarriageReturn h = alone b r
    go Backslash h = alone b r
    go Blank h = alone b r
    go Ordinary h = alone b r

-- the text of a line and its line end are the line
pub without_line_end-line_end : (l : List ℕ) → without_line_end l ++ line_end_bytes (line_end l) ≡ l
without_line_end-line_end l = text-line_end_backwards (reverse l) ∙ reverse-reverse l

-- ---- where a text ends a line

-- a line end that has a line feed is not None
line_end_by-some : (c : Bool) → has_no_line_end (line_end_by c) ≡ false
line_end_by-some true = refl
line_end_by-some false = refl

line_feed-state : (s : LineState) → not (is_continued_state s) ≡ is_at_start (next_line_state s LineFeed)
line_feed-state AtStart = refl
line_feed-state InLine = refl
line_feed-state AfterOddRun = refl
line_feed-state AfterOddRunCr = refl

ends-backwards : (r : List ℕ) → (not (has_no_line_end (line_end_backwards r)) && not (starts_with_odd_run (drop_line_end r))) ≡ is_at_start (line_state_backwards r)
ends-backwards [] = refl
ends-backwards (b ∷ r) = go (byte_kind b)
  where
    go : (k : ByteKind) → (not (has_no_line_end (line_end_at k r)) && not (starts_with_odd_run (drop_line_end_at k b r))) ≡ is_at_start (next_line_state (line_state_backwards r) k)
    go LineFeed = rw (line_end_by-some (is_carriage_return_first r), drop_carriage_return-state r) (line_feed-state (line_state_backwards r))
    go CarriageReturn = sym (next-not_start (line_state_backwards r) CarriageReturn (λ h. cc))
    go Backslash = sym (next-not_start (line_state_backwards r) Backslash (λ h. cc))
    go Blank = sym (next-not_start (line_state_backwards r) Blank (λ h. cc))
    go Ordinary = sym (next-not_start (line_state_backwards r) Ordinary (λ h. cc))

pub state_after-start : (b : ℕ) (t : List ℕ) → line_state_after AtStart (b ∷ t) ≡ line_state_after InLine (b ∷ t)
state_after-start b t = rw (next-start (byte_kind b)) refl

-- a text ends a line if the machine that cuts lines is then at the start of a line
ends_line-state : (t : List ℕ) → ends_line t ≡ is_at_start (line_state_after AtStart t)
ends_line-state [] = refl
ends_line-state (b ∷ t) =
    ap (λ z. not (has_no_line_end (line_end (b ∷ t))) && not (starts_with_odd_run z)) (reverse-reverse (drop_line_end (reverse (b ∷ t))))
    ∙ (ends-backwards (reverse (b ∷ t)) ∙ ap is_at_start (sym (state_after-start b t ∙ line_state_after-reverse (b ∷ t))))

-- a text that `ends_line` is one that `Ends`
pub ends_line-ends : (t : List ℕ) → ends_line t ≡ true → Ends t
unfolding Ends
ends_line-ends t h = is_at_start-is (line_state_after AtStart t) (sym (ends_line-state t) ∙ h)

pub EndsBefore-followed : (text : List ℕ) (lines : List (List ℕ)) → EndsWhereFollowed text lines → EndsBefore text lines
EndsBefore-followed text [] h = tt
EndsBefore-followed text (line ∷ lines) h = ends_line-ends text h

pub Ends-ends_line : (t : List ℕ) → Ends t → ends_line t ≡ true
unfolding Ends
Ends-ends_line t h = ends_line-state t ∙ ap is_at_start h

pub EndsWhereFollowed-of : (t : List ℕ) (ls : List (List ℕ)) → EndsBefore t ls → EndsWhereFollowed t ls
EndsWhereFollowed-of t [] h = tt
EndsWhereFollowed-of t (l ∷ ls) h = Ends-ends_line t h

-- ---- a line end put after a text

-- the first byte, if there is one, is of another kind
abbrev pub FirstIsNot : ByteKind → List ℕ → Type 0
FirstIsNot k [] = Unit {0}
FirstIsNot k (b ∷ t) = byte_kind b ≡ k → ⊥

-- A line end put after a text stays apart from it; the text is read backwards. If the line end is None, the text does not end in
-- a line feed; if it is LF, the text does not end in a carriage return.
abbrev pub KeepsApart : End → List ℕ → Type 0
KeepsApart None r = FirstIsNot LineFeed r
KeepsApart Lf r = FirstIsNot CarriageReturn r
KeepsApart CrLf r = Unit {0}

-- a text without a line feed at its end has no line end
pub drop_line_end-none : (r : List ℕ) → FirstIsNot LineFeed r → drop_line_end r ≡ r
drop_line_end-none [] h = refl
drop_line_end-none (b ∷ r) h = go (byte_kind b) h
  where
    go : (k : ByteKind) → (k ≡ LineFeed → ⊥) → drop_line_end_at k b r ≡ b ∷ r
    go LineFeed h = absurd (h refl)
    go CarriageReturn h = refl
    go Backslash h = refl
    go Blank h = refl
    go Ordinary h = refl

drop_carriage_return-none : (r : List ℕ) → FirstIsNot CarriageReturn r → drop_carriage_return r ≡ r
drop_carriage_return-none [] h = refl
drop_carriage_return-none (b ∷ r) h = go (byte_kind b) h
  where
    go : (k : ByteKind) → (k ≡ CarriageReturn → ⊥) → drop_carriage_return_at k b r ≡ b ∷ r
    go CarriageReturn h = absurd (h refl)
    go LineFeed h = refl
    go Backslash h = refl
    go Blank h = refl
    go Ordinary h = refl

line_end-none : (r : List ℕ) → FirstIsNot LineFeed r → line_end_backwards r ≡ None
line_end-none [] h = refl
line_end-none (b ∷ r) h = go (byte_kind b) h
  where
    go : (k : ByteKind) → (k ≡ LineFeed → ⊥) → line_end_at k r ≡ None
    go LineFeed h = absurd (h refl)
    go CarriageReturn h = refl
    go Backslash h = refl
    go Blank h = refl
    go Ordinary h = refl

carriage_return-none : (r : List ℕ) → FirstIsNot CarriageReturn r → is_carriage_return_first r ≡ false
carriage_return-none [] h = refl
carriage_return-none (b ∷ r) h = go (byte_kind b) h
  where
    go : (k : ByteKind) → (k ≡ CarriageReturn → ⊥) → is_carriage_return_kind k ≡ false
    go CarriageReturn h = absurd (h refl)
    go LineFeed h = refl
    go Backslash h = refl
    go Blank h = refl
    go Ordinary h = refl

-- a text and a line end that stays apart from it are a line with this text and this line end
pub without_line_end-append : (x : List ℕ) (e : End) → KeepsApart e (reverse x) → without_line_end (x ++ line_end_bytes e) ≡ x
without_line_end-append x None h = rw (append-nil x, drop_line_end-none (reverse x) h, reverse-reverse x) refl
without_line_end-append x Lf h = rw (reverse-append x (10 ∷ []), drop_carriage_return-none (reverse x) h, reverse-reverse x) refl
without_line_end-append x CrLf h = rw (reverse-append x (13 ∷ 10 ∷ []), reverse-reverse x) refl

-- the line end of such a line is this one
pub line_end-append : (x : List ℕ) (e : End) → KeepsApart e (reverse x) → line_end (x ++ line_end_bytes e) ≡ e
line_end-append x None h = rw (append-nil x) (line_end-none (reverse x) h)
line_end-append x Lf h = rw (reverse-append x (10 ∷ []), carriage_return-none (reverse x) h) refl
line_end-append x CrLf h = rw (reverse-append x (13 ∷ 10 ∷ [])) refl

apart_backwards : (r : List ℕ) → KeepsApart (line_end_backwards r) (drop_line_end r)
apart_backwards [] = tt
apart_backwards (b ∷ r) = go (byte_kind b) refl
  where
    after_line_feed : (r : List ℕ) → KeepsApart (line_end_by (is_carriage_return_first r)) (drop_carriage_return r)
    after_line_feed [] = tt
    after_line_feed (c ∷ r) = at (byte_kind c) refl
      where
        at : (k : ByteKind) → byte_kind c ≡ k → KeepsApart (line_end_by (is_carriage_return_kind k)) (drop_carriage_return_at k c r)
        at CarriageReturn h = tt
        at LineFeed h = λ x. cc
        at Backslash h = λ x. cc
        at Blank h = λ x. cc
        at Ordinary h = λ x. cc

    go : (k : ByteKind) → byte_kind b ≡ k → KeepsApart (line_end_at k r) (drop_line_end_at k b r)
    go LineFeed h = after_line_feed r
    go CarriageReturn h = λ x. cc
    go Backslash h = λ x. cc
    go Blank h = λ x. cc
    go Ordinary h = λ x. cc

-- the line end of a line stays apart from its text
pub line_end-keeps_apart : (l : List ℕ) → KeepsApart (line_end l) (reverse (without_line_end l))
line_end-keeps_apart l = rw (reverse-reverse (drop_line_end (reverse l))) (apart_backwards (reverse l))
