-- The lines of a block with their line ends: the text ends a line if its last line has a line end.
use Rattle.std.proofs.Common.{◌≡◌, refl, sym, ap, ◌∙◌, subst, ℕ, List, [], ◌∷◌, ◌++◌, append_assoc, Bool, true, false, not, reverse, if◌then◌else◌}
use Rattle.std.specs.List.{list_any}
use Rattle.std.proofs.lemmas.List.{reverse-append}
use Rattle.mk_lines.proofs.on_lists.BoolLemmas.{or-left_false, or-right_false}
use Rattle.mk_lines.specs.Bytes.{ByteKind, LineFeed, CarriageReturn, Backslash, Blank, Ordinary, byte_kind}
use Rattle.mk_lines.specs.PhysicalLines.{line_end, line_end_bytes}
use Rattle.mk_lines.specs.LogicalLines.{starts_with_odd_run, starts_with_odd_run_at, ends_with_odd_run, is_continued, has_no_line_end, ends_line}
use Rattle.mk_lines.specs.declared.ends.End.{End}
use Rattle.mk_lines.specs.declared.ends.End.TheVariants.{None, Lf, CrLf}
use Rattle.mk_lines.proofs.on_lines.LineLemmas.{Ends}
use Rattle.mk_lines.proofs.on_lines.LineEndLemmas.{FirstIsNot, KeepsApart, line_end-append, without_line_end-append, ends_line-ends}
use Rattle.mk_lines.proofs.on_cells.LineCells.{HasNoLineEnd, is_no_line_end_kind}
use Rattle.mk_class.specs.ListTests.{last_passes}
use Rattle.mk_class.specs.Arguments.{is_clean}
use Rattle.mk_tree.proofs.on_changes.NewLineLemmas.{clean-no_line_end}
use Rattle.mk_class.specs.ClassedLines.{ClassedLine}
use Rattle.mk_tree.specs.NewLineEnds.{lacks_line_end}
use Rattle.mk_edit_language.specs.LineExchanges.{with_line_ends, last_line_end}

-- ---- the first byte of a text

-- the first byte, if there is one, is a line feed
abbrev FirstIsLineFeed : List ℕ → Type 0
FirstIsLineFeed [] = Unit {0}
FirstIsLineFeed (b ∷ t) = byte_kind b ≡ LineFeed

line_feed-not : (k : ByteKind) (t : List ℕ) → (LineFeed ≡ k → ⊥) → FirstIsLineFeed t → FirstIsNot k t
line_feed-not k [] h f = tt
line_feed-not k (b ∷ t) h f = λ e. h (sym f ∙ e)

first_not-append : (k : ByteKind) (a b : List ℕ) → FirstIsNot k a → FirstIsNot k b → FirstIsNot k (a ++ b)
first_not-append k [] b h i = i
first_not-append k (x ∷ a) b h i = h

-- a line end between two texts that are read backwards, the first of which begins with a line feed if it has a byte
line_end-between : (e : End) (a b : List ℕ) → has_no_line_end e ≡ false → FirstIsLineFeed a → FirstIsLineFeed (a ++ (reverse (line_end_bytes e) ++ b))
line_end-between None a b h f = absurd (cc)
line_end-between Lf [] b h f = refl
line_end-between Lf (x ∷ a) b h f = f
line_end-between CrLf [] b h f = refl
line_end-between CrLf (x ∷ a) b h f = f

not_carriage_return : (k : ByteKind) → is_no_line_end_kind k ≡ true → k ≡ CarriageReturn → ⊥
not_carriage_return LineFeed h e = cc
not_carriage_return CarriageReturn h e = cc
not_carriage_return Backslash h e = cc
not_carriage_return Blank h e = cc
not_carriage_return Ordinary h e = cc

-- a text without CR ends in none
pub no_carriage_return-last : (t : List ℕ) → HasNoLineEnd t → FirstIsNot CarriageReturn (reverse t)
no_carriage_return-last [] h = tt
no_carriage_return-last (b ∷ t) h =
    subst (FirstIsNot CarriageReturn) (sym (reverse-append (b ∷ []) t))
    (first_not-append CarriageReturn (reverse t) (b ∷ []) (no_carriage_return-last t h.1) (not_carriage_return (byte_kind b) h.0))

-- the run of backslashes at the front, with something after the text that begins with none
odd_run-append : (a b : List ℕ) → FirstIsNot Backslash b → starts_with_odd_run (a ++ b) ≡ starts_with_odd_run a
odd_run-append [] [] h = refl
odd_run-append [] (x ∷ b) h = at (byte_kind x) (starts_with_odd_run b) h
  where
    at : (k : ByteKind) (r : Bool) → (k ≡ Backslash → ⊥) → starts_with_odd_run_at k r ≡ false
    at Backslash r h = absurd (h refl)
    at LineFeed r h = refl
    at CarriageReturn r h = refl
    at Blank r h = refl
    at Ordinary r h = refl
odd_run-append (x ∷ a) b h = ap (starts_with_odd_run_at (byte_kind x)) (odd_run-append a b h)

-- ---- the last line of a block

-- what stands before the last line, and the last line
record LastLine (e z : End) (ts : List (List ℕ)) : Type 0 where
  front : List ℕ
  last : List ℕ
  is : with_line_ends e z ts ≡ front ++ (last ++ line_end_bytes z)
  front_ends : FirstIsLineFeed (reverse front)
  clean : is_clean last ≡ true
  even : ends_with_odd_run last ≡ false

last-line : (e z : End) (t : List ℕ) (ts : List (List ℕ)) → has_no_line_end e ≡ false → list_any (λ x. not (is_clean x)) (t ∷ ts) ≡ false → last_passes ends_with_odd_run (t ∷ ts) ≡ false → LastLine e z (t ∷ ts)
last-line e z t [] k h o = record {
  front = [];
  last = t;
  is = refl;
  front_ends = tt;
  clean = clean-of (is_clean t) (or-left_false (not (is_clean t)) (list_any (λ x. not (is_clean x)) []) h);
  even = o;
}
  where
    clean-of : (b : Bool) → not b ≡ false → b ≡ true
    clean-of true h = refl
    clean-of false h = cc
last-line e z t (u ∷ ts) k h o =
    let L : LastLine e z (u ∷ ts) = last-line e z u ts k (or-right_false (not (is_clean t)) (list_any (λ x. not (is_clean x)) (u ∷ ts)) h) o in
    let E = line_end_bytes e in
    let backwards : reverse (t ++ (E ++ L.front)) ≡ reverse L.front ++ (reverse E ++ reverse t) =
    reverse-append t (E ++ L.front) ∙ (ap (λ z. z ++ reverse t) (reverse-append E L.front) ∙ append_assoc (reverse L.front) (reverse E) (reverse t)) in
    record {
      front = t ++ (E ++ L.front);
      last = L.last;
      is = ap (λ z. t ++ (E ++ z)) L.is ∙ (ap (λ z. t ++ z) (sym (append_assoc E L.front (L.last ++ line_end_bytes z))) ∙ sym (append_assoc t (E ++ L.front) (L.last ++ line_end_bytes z)));
      front_ends = subst FirstIsLineFeed (sym backwards) (line_end-between e (reverse L.front) (reverse t) k L.front_ends);
      clean = L.clean;
      even = L.even;
    }

closes : (v : List ℕ) → has_no_line_end (line_end v) ≡ false → is_continued v ≡ false → ends_line v ≡ true
closes [] h k = refl
closes (b ∷ v) h k = rw (h, k) refl

-- a line end stays apart from a text that does not end in CR
pub line_end-apart : (e : End) (t : List ℕ) → has_no_line_end e ≡ false → FirstIsNot CarriageReturn (reverse t) → KeepsApart e (reverse t)
line_end-apart None t h k = absurd (cc)
line_end-apart Lf t h k = k
line_end-apart CrLf t h k = tt

-- The lines of a block end a line, if the last has a line end.
pub block-ends : (e z : End) (t : List ℕ) (ts : List (List ℕ)) → has_no_line_end e ≡ false → has_no_line_end z ≡ false → list_any (λ x. not (is_clean x)) (t ∷ ts) ≡ false → last_passes ends_with_odd_run (t ∷ ts) ≡ false
    → Ends (with_line_ends e z (t ∷ ts))
block-ends e z t ts k n h o =
    let L : LastLine e z (t ∷ ts) = last-line e z t ts k h o in
    let x = L.front ++ L.last in
    let v = x ++ line_end_bytes z in
    let is : with_line_ends e z (t ∷ ts) ≡ v = L.is ∙ sym (append_assoc L.front L.last (line_end_bytes z)) in
    let backwards : reverse x ≡ reverse L.last ++ reverse L.front = reverse-append L.front L.last in
    let no_cr : FirstIsNot CarriageReturn (reverse x) =
    subst (FirstIsNot CarriageReturn) (sym backwards)
    (first_not-append CarriageReturn (reverse L.last) (reverse L.front) (no_carriage_return-last L.last (clean-no_line_end L.last L.clean)) (line_feed-not CarriageReturn (reverse L.front) (λ q. cc) L.front_ends)) in
    let apart : KeepsApart z (reverse x) = line_end-apart z x n no_cr in
    let even : ends_with_odd_run x ≡ false =
    ap starts_with_odd_run backwards ∙ (odd_run-append (reverse L.last) (reverse L.front) (line_feed-not Backslash (reverse L.front) (λ q. cc) L.front_ends) ∙ L.even) in
    let ended : has_no_line_end (line_end v) ≡ false = ap has_no_line_end (line_end-append x z apart) ∙ n in
    let whole : is_continued v ≡ false = ap ends_with_odd_run (without_line_end-append x z apart) ∙ even in
    subst Ends (sym is) (ends_line-ends v (closes v ended whole))

-- the line end of the last of some lines, or one that is given
pub last_line_end-some : (e : End) (ls : List ClassedLine) → has_no_line_end e ≡ false → has_no_line_end (last_line_end e ls) ≡ false
last_line_end-some e [] h = h
last_line_end-some e (l ∷ []) h = go (lacks_line_end l) refl
  where
    go : (b : Bool) → has_no_line_end (line_end l.bytes) ≡ b → has_no_line_end (if b then e else line_end l.bytes) ≡ false
    go true i = h
    go false i = i
last_line_end-some e (l ∷ k ∷ ls) h = last_line_end-some e (k ∷ ls) h
