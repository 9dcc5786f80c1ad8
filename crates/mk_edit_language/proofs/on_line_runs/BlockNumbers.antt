-- How many logical lines the lines of a block are: as many, whatever their line ends.
use Rattle.std.proofs.Common.{◌≡◌, refl, sym, ap, ◌∙◌, subst, arith, ℕ, suc, ◌≤◌, List, [], ◌∷◌, ◌++◌, append_assoc, Bool, true, false, not, ◌&&◌, ◌||◌, if◌then◌else◌, length}
use Rattle.std.specs.List.{list_any}
use Rattle.std.proofs.lemmas.List.{append-nil}
use Rattle.mk_lines.proofs.on_lists.BoolLemmas.{or-left_false, or-right_false}
use Rattle.mk_lines.specs.Bytes.{ByteKind, LineFeed, CarriageReturn, Backslash, Blank, Ordinary, byte_kind}
use Rattle.mk_lines.specs.PhysicalLines.{line_end_bytes, file_line_end}
use Rattle.mk_lines.specs.LogicalLines.{logical_lines, before_group, is_continued, ends_with_odd_run, has_no_line_end}
use Rattle.mk_lines.specs.declared.ends.End.{End}
use Rattle.mk_lines.specs.declared.ends.End.TheVariants.{None, Lf, CrLf}
use Rattle.mk_lines.proofs.on_lines.LineCut.{NoLineFeed, logical_lines-line, logical_lines-last}
use Rattle.mk_lines.proofs.on_lines.LineEndLemmas.{without_line_end-append}
use Rattle.mk_lines.proofs.on_cells.LineCells.{HasNoLineEnd, is_no_line_end_kind}
use Rattle.mk_class.specs.ListTests.{is_empty, last_passes}
use Rattle.mk_class.specs.Arguments.{is_clean}
use Rattle.mk_class.specs.Contexts.{Context, context_after}
use Rattle.mk_class.specs.ClassTable.{class_of}
use Rattle.mk_class.specs.ClassedLines.{ClassedLine, classed}
use Rattle.mk_tree.specs.NewLineEnds.{lacks_line_end}
use Rattle.mk_tree.proofs.on_changes.NewLineLemmas.{clean-no_line_end, file_line_end-some}
use Rattle.mk_edit_language.specs.LineRuns.{is_block}
use Rattle.mk_edit_language.specs.LineExchanges.{with_line_ends, last_line_end, line_cost}
use Rattle.mk_edit_language.proofs.on_line_runs.BlockEnds.{no_carriage_return-last, line_end-apart, last_line_end-some}

pub length-classed : (c : Context) (ls : List (List ℕ)) → length (classed c ls) ≡ length ls
length-classed c [] = refl
length-classed c (l ∷ ls) = ap (λ n. suc n) (length-classed (context_after c (class_of c l)) ls)

-- ---- one line

-- a text without LF and CR, before a text without LF
no_line_feed-before : (t rest : List ℕ) → HasNoLineEnd t → NoLineFeed rest → NoLineFeed (t ++ rest)
no_line_feed-before [] rest h k = k
no_line_feed-before (b ∷ t) rest h k = (kind (byte_kind b) h.0, no_line_feed-before t rest h.1 k)
  where
    kind : (k : ByteKind) → is_no_line_end_kind k ≡ true → k ≡ LineFeed → ⊥
    kind LineFeed h e = cc
    kind CarriageReturn h e = cc
    kind Backslash h e = cc
    kind Blank h e = cc
    kind Ordinary h e = cc

no_line_feed-alone : (t : List ℕ) → HasNoLineEnd t → NoLineFeed t
no_line_feed-alone t h = subst NoLineFeed (append-nil t) (no_line_feed-before t [] h tt)

-- a clean line with its line end, before other lines
record BeforeLines (e : End) (t rest : List ℕ) : Type 0 where
  line : List ℕ
  is : logical_lines (t ++ (line_end_bytes e ++ rest)) ≡ before_group (ends_with_odd_run t) line (logical_lines rest)

line-before : (e : End) (t rest : List ℕ) → has_no_line_end e ≡ false → HasNoLineEnd t → BeforeLines e t rest
line-before None t rest h n = absurd (cc)
line-before Lf t rest h n =
    let same : is_continued (t ++ 10 ∷ []) ≡ ends_with_odd_run t = ap ends_with_odd_run (without_line_end-append t Lf (line_end-apart Lf t refl (no_carriage_return-last t n))) in
    record {
      line = t ++ 10 ∷ [];
      is = logical_lines-line t 10 rest (no_line_feed-alone t n) refl ∙ ap (λ b. before_group b (t ++ 10 ∷ []) (logical_lines rest)) same;
    }
line-before CrLf t rest h n =
    let x = t ++ 13 ∷ [] in
    let whole : x ++ 10 ∷ [] ≡ t ++ 13 ∷ 10 ∷ [] = append_assoc t (13 ∷ []) (10 ∷ []) in
    let same : is_continued (x ++ 10 ∷ []) ≡ ends_with_odd_run t = ap is_continued whole ∙ ap ends_with_odd_run (without_line_end-append t CrLf tt) in
    let apart : NoLineFeed x = no_line_feed-before t (13 ∷ []) n ((λ q. cc), tt) in
    record {
      line = x ++ 10 ∷ [];
      is =
          ap logical_lines (sym (append_assoc t (13 ∷ []) (10 ∷ rest)))
          ∙ (logical_lines-line x 10 rest apart refl ∙ ap (λ b. before_group b (x ++ 10 ∷ []) (logical_lines rest)) same);
    }

length-group_none : (b : Bool) (l : List ℕ) → length (before_group b l []) ≡ 1
length-group_none true l = refl
length-group_none false l = refl

length-group : (b : Bool) (l : List ℕ) (ls : List (List ℕ)) → 1 ≤ length ls → length (before_group b l ls) ≡ (if b then length ls else suc (length ls))
length-group false l ls h = refl
length-group true l [] h = absurd (omega arith)
length-group true l (x ∷ ls) h = refl

-- ---- the lines of a block

-- how many logical lines the lines of a block are
number : List (List ℕ) → ℕ
number [] = 0
number (t ∷ []) = 1
number (t ∷ u ∷ ts) = if ends_with_odd_run t then number (u ∷ ts) else suc (number (u ∷ ts))

if-some : (b : Bool) (n : ℕ) → 1 ≤ n → 1 ≤ (if b then n else suc n)
if-some true n h = h
if-some false n h = omega arith

number-some : (t : List ℕ) (ts : List (List ℕ)) → 1 ≤ number (t ∷ ts)
unfolding number
number-some t [] = omega arith
number-some t (u ∷ ts) = if-some (ends_with_odd_run t) (number (u ∷ ts)) (number-some u ts)

clean-first : (t : List ℕ) (ts : List (List ℕ)) → list_any (λ x. not (is_clean x)) (t ∷ ts) ≡ false → HasNoLineEnd t
clean-first t ts h = clean-no_line_end t (of (is_clean t) (or-left_false (not (is_clean t)) (list_any (λ x. not (is_clean x)) ts) h))
  where
    of : (b : Bool) → not b ≡ false → b ≡ true
    of true h = refl
    of false h = cc

-- the last line has a line end or is not empty
length-lines : (e z : End) (ts : List (List ℕ)) → has_no_line_end e ≡ false → (has_no_line_end z && last_passes is_empty ts) ≡ false → list_any (λ x. not (is_clean x)) ts ≡ false
    → length (logical_lines (with_line_ends e z ts)) ≡ number ts
unfolding number
length-lines e z [] h k c = refl
length-lines e z (t ∷ []) h k c = last z t k (clean-first t [] c)
  where
    ended : (z : End) → has_no_line_end z ≡ false → HasNoLineEnd t → length (logical_lines (t ++ line_end_bytes z)) ≡ 1
    ended z h n =
        let L : BeforeLines z t [] = line-before z t [] h n in
        ap (λ x. length (logical_lines (t ++ x))) (sym (append-nil (line_end_bytes z))) ∙ (ap length L.is ∙ length-group_none (ends_with_odd_run t) L.line)

    bare : (x : List ℕ) → is_empty x ≡ false → HasNoLineEnd x → length (logical_lines (x ++ [])) ≡ 1
    bare [] k n = absurd (cc)
    bare (b ∷ x) k n = ap (λ y. length (logical_lines y)) (append-nil (b ∷ x)) ∙ ap length (logical_lines-last b x (no_line_feed-alone (b ∷ x) n))

    last : (z : End) (x : List ℕ) → (has_no_line_end z && is_empty t) ≡ false → HasNoLineEnd t → length (logical_lines (t ++ line_end_bytes z)) ≡ 1
    last None x k n = bare t k n
    last Lf x k n = ended Lf refl n
    last CrLf x k n = ended CrLf refl n
length-lines e z (t ∷ u ∷ ts) h k c =
    let rest = with_line_ends e z (u ∷ ts) in
    let ih : length (logical_lines rest) ≡ number (u ∷ ts) = length-lines e z (u ∷ ts) h k (or-right_false (not (is_clean t)) (list_any (λ x. not (is_clean x)) (u ∷ ts)) c) in
    let L : BeforeLines e t rest = line-before e t rest h (clean-first t (u ∷ ts) c) in
    let some : 1 ≤ length (logical_lines rest) = subst (λ n. 1 ≤ n) (sym ih) (number-some u ts) in
    ap length L.is ∙ (length-group (ends_with_odd_run t) L.line (logical_lines rest) some ∙ ap (λ n. if ends_with_odd_run t then n else suc n) ih)

-- As many logical lines are new as the cost says.
pub block-number : (t : List ℕ) (ts : List (List ℕ)) (run : List ClassedLine) → (is_empty ts || is_block ts) ≡ true
    → length (logical_lines (with_line_ends (last_line_end (file_line_end t) run) (if last_passes lacks_line_end run && not (last_passes is_empty ts) then None else last_line_end (file_line_end t) run) ts)) ≡ line_cost ts
block-number t [] run h = refl
block-number t (x ∷ ts) run h =
    let e = last_line_end (file_line_end t) run in
    let some : has_no_line_end e ≡ false = last_line_end-some (file_line_end t) run (file_line_end-some t) in
    let c : list_any (λ y. not (is_clean y)) (x ∷ ts) ≡ false = clean-all (list_any (λ y. not (is_clean y)) (x ∷ ts)) (last_passes ends_with_odd_run (x ∷ ts)) h in
    length-lines e _ (x ∷ ts) some (filled (last_passes lacks_line_end run) (last_passes is_empty (x ∷ ts)) e some) c
    ∙ sym (length-lines Lf Lf (x ∷ ts) refl refl c)
  where
    clean-all : (a b : Bool) → (not a && not b) ≡ true → a ≡ false
    clean-all true b h = cc
    clean-all false b h = refl

    filled : (a b : Bool) (e : End) → has_no_line_end e ≡ false → (has_no_line_end (if a && not b then None else e) && b) ≡ false
    filled true true e h = ap (λ y. y && true) h
    filled true false e h = refl
    filled false true e h = ap (λ y. y && true) h
    filled false false e h = ap (λ y. y && false) h
