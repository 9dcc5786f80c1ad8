-- What whole lines say, in bytes: their physical lines without their line ends, which new lines have as their block says.
use Rattle.std.proofs.Common.{◌≡◌, refl, sym, ap, ◌∙◌, subst, ℕ, Bool, true, false, not, ◌&&◌, ◌==◌, List, [], ◌∷◌, ◌++◌, map, Option, Some, None, if◌then◌else◌}
use Rattle.std.proofs.lemmas.Bool.{eqb-true}
use Rattle.std.proofs.lemmas.List.{append-nil, map-append, reverse-append}
use Rattle.std.proofs.lemmas.List.Folds.{flat_map-map}
use Rattle.std.specs.Prelude.{reverse}
use Rattle.std.specs.List.{flat_map, list_any}
use Rattle.mk_lines.specs.Lists.{onto_first}
use Rattle.mk_lines.specs.Bytes.{ByteKind, LineFeed, CarriageReturn, Backslash, Blank, Ordinary, byte_kind}
use Rattle.mk_lines.specs.PhysicalLines.{physical_lines, before_lines, line_end_bytes, without_line_end, file_line_end}
use Rattle.mk_lines.specs.LogicalLines.{logical_lines, grouped, before_group, is_continued, has_no_line_end, ends_with_odd_run}
use Rattle.mk_lines.specs.declared.ends.End.{End}
use Rattle.mk_lines.specs.declared.ends.End.TheVariants as ends
use Rattle.mk_lines.proofs.on_lists.BoolLemmas.{or-left_false, or-right_false}
use Rattle.mk_lines.proofs.on_lines.LineCut.{before_lines-ordinary}
use Rattle.mk_lines.proofs.on_lines.LineEndLemmas.{FirstIsNot, KeepsApart, without_line_end-append}
use Rattle.mk_lines.proofs.on_cells.LineCells.{HasNoLineEnd, is_no_line_end_kind}
use Rattle.mk_class.specs.ListTests.{is_empty, last_passes}
use Rattle.mk_class.specs.Arguments.{is_clean}
use Rattle.mk_class.specs.ClassedLines.{ClassedLine, classed_lines}
use Rattle.mk_tree.specs.LineTexts.{bytes_of}
use Rattle.mk_tree.specs.NewLineEnds.{lacks_line_end}
use Rattle.mk_tree.proofs.on_changes.NewLineLemmas.{file_line_end-some, clean-no_line_end}
use Rattle.mk_edit_language.specs.Edits.{OfRun}
use Rattle.mk_edit_language.specs.Spots.{nth_of, picked}
use Rattle.mk_edit_language.specs.Stretches.{Stretch}
use Rattle.mk_edit_language.specs.LineRuns.{before_texts, block_lines, is_block, texts_of, runs, site_found}
use Rattle.mk_edit_language.specs.LineExchanges.{with_line_ends, last_line_end, block_text}
use Rattle.mk_edit_language.specs.LineLaws.{said_by}
use Rattle.mk_edit_language.proofs.on_line_runs.BlockTexts.{block-some}
use Rattle.mk_edit_language.proofs.on_line_runs.RunsSaid.{runs-said}
use Rattle.mk_edit_language.proofs.on_line_runs.BlockEnds.{no_carriage_return-last, last_line_end-some}
use Rattle.mk_session.specs.Statement.{Lines, Say}

-- ---- the physical lines of logical lines

-- physical lines, each of which but the last is one before any text
abbrev ArePhysical : List (List ℕ) → Type 0
ArePhysical [] = Unit {0}
ArePhysical (p ∷ []) = physical_lines p ≡ p ∷ []
ArePhysical (p ∷ q ∷ ps) = ((t : List ℕ) → physical_lines (p ++ t) ≡ p ∷ physical_lines t) × ArePhysical (q ∷ ps)

physical-onto : (b : ℕ) (ps : List (List ℕ)) → (byte_kind b ≡ LineFeed → ⊥) → ArePhysical ps → ArePhysical (onto_first (b ∷ []) ps)
physical-onto b [] n h = before_lines-ordinary (byte_kind b) b [] n
physical-onto b (p ∷ []) n h = before_lines-ordinary (byte_kind b) b (physical_lines p) n ∙ ap (onto_first (b ∷ [])) h
physical-onto b (p ∷ q ∷ ps) n h = (λ t. before_lines-ordinary (byte_kind b) b (physical_lines (p ++ t)) n ∙ ap (onto_first (b ∷ [])) (h.0 t), h.1)

physical-before : (k : ByteKind) (b : ℕ) (ps : List (List ℕ)) → byte_kind b ≡ k → ArePhysical ps → ArePhysical (before_lines k b ps)
physical-before LineFeed b [] e h = ap (λ k. before_lines k b []) e
physical-before LineFeed b (p ∷ ps) e h = (λ t. ap (λ k. before_lines k b (physical_lines t)) e, h)
physical-before CarriageReturn b ps e h = physical-onto b ps (λ feed. cc) h
physical-before Backslash b ps e h = physical-onto b ps (λ feed. cc) h
physical-before Blank b ps e h = physical-onto b ps (λ feed. cc) h
physical-before Ordinary b ps e h = physical-onto b ps (λ feed. cc) h

physical-lines : (t : List ℕ) → ArePhysical (physical_lines t)
physical-lines [] = tt
physical-lines (b ∷ t) = physical-before (byte_kind b) b (physical_lines t) refl (physical-lines t)

physical-groups : (ps : List (List ℕ)) → ArePhysical ps → flat_map physical_lines (grouped ps) ≡ ps
physical-groups [] h = refl
physical-groups (p ∷ []) h = go (is_continued p)
  where
    go : (c : Bool) → flat_map physical_lines (before_group c p []) ≡ p ∷ []
    go true = ap (λ z. z ++ []) h
    go false = ap (λ z. z ++ []) h
physical-groups (p ∷ q ∷ ps) h = go (is_continued p) (grouped (q ∷ ps)) (physical-groups (q ∷ ps) h.1)
  where
    go : (c : Bool) (ls : List (List ℕ)) → flat_map physical_lines ls ≡ q ∷ ps → flat_map physical_lines (before_group c p ls) ≡ p ∷ q ∷ ps
    go true [] e = absurd (cc)
    go true (l ∷ ls) e = ap (λ z. z ++ flat_map physical_lines ls) (h.0 l) ∙ ap (λ z. p ∷ z) e
    go false ls e =
        ap (λ z. physical_lines z ++ flat_map physical_lines ls) (sym (append-nil p))
        ∙ (ap (λ z. z ++ flat_map physical_lines ls) (h.0 []) ∙ ap (λ z. p ∷ z) e)

-- the physical lines of the logical lines of a text are its physical lines
physical-logical : (t : List ℕ) → flat_map physical_lines (logical_lines t) ≡ physical_lines t
physical-logical t = physical-groups (physical_lines t) (physical-lines t)

-- ---- lines that say a block

-- texts with a line feed after each
with_feeds : List (List ℕ) → List ℕ
with_feeds ts = flat_map (λ t. t ++ 10 ∷ []) ts

feeds-before : (n : Bool) (b : ℕ) (ts : List (List ℕ)) → (b == 10) ≡ n → (ts ≡ [] → ⊥) → with_feeds (before_texts n b ts) ≡ b ∷ with_feeds ts
unfolding with_feeds
feeds-before n b [] e some = absurd (some refl)
feeds-before true b (t ∷ ts) e some = ap (λ z. z ∷ with_feeds (t ∷ ts)) (sym (eqb-true b 10 e))
feeds-before false b (t ∷ ts) e some = refl

feeds-block : (b : List ℕ) → with_feeds (block_lines b) ≡ b ++ 10 ∷ []
unfolding with_feeds
feeds-block [] = refl
feeds-block (b ∷ t) = feeds-before (b == 10) b (block_lines t) refl (block-some t) ∙ ap (λ z. b ∷ z) (feeds-block t)

-- what some lines say, one after the other
abbrev said : Lines → List (List ℕ)
said ls = map without_line_end (flat_map physical_lines ls)

pub say-block : (b : List ℕ) (up ls : Lines) → said ls ≡ block_lines b → Say b up ls
unfolding with_feeds
say-block b up ls h = sym (flat_map-map (λ t. t ++ 10 ∷ []) without_line_end (flat_map physical_lines ls)) ∙ (ap with_feeds h ∙ feeds-block b)

-- ---- the lines that go

said-lines : (ls : List ClassedLine) → said (bytes_of ls) ≡ said_by ls
said-lines [] = refl
said-lines (l ∷ ls) = map-append without_line_end (physical_lines l.bytes) (flat_map physical_lines (bytes_of ls)) ∙ ap (λ z. texts_of l.bytes ++ z) (said-lines ls)

pub picked-nth : (nth : Option ℕ) (ss : List Stretch) (s : Stretch) → picked nth ss ≡ Some s → (n : ℕ) × (nth_of n ss ≡ Some s)
picked-nth None [] s h = absurd (cc)
picked-nth None (r ∷ []) s h = (1, h)
picked-nth None (r ∷ q ∷ ss) s h = absurd (cc)
picked-nth (Some n) ss s h = (n, h)

-- the lines of a run for a block say it
pub run-said : (t : List ℕ) (nth : Option ℕ) (o : List ℕ) (s : Stretch) → site_found (classed_lines t) (OfRun nth (block_lines o)) ≡ Some s → said (bytes_of s.lines) ≡ block_lines o
run-said t nth o s h =
    let p = picked-nth nth (runs (block_lines o) (classed_lines t)) s h in
    said-lines s.lines ∙ ((runs-said t (block_lines o) (some (block_lines o) (block-some o))).each_says p.0 s p.1).says
  where
    some : (b : List (List ℕ)) → (b ≡ [] → ⊥) → is_empty b ≡ false
    some [] h = absurd (h refl)
    some (t ∷ ts) h = refl

-- ---- the new lines

not_feed : (k : ByteKind) → is_no_line_end_kind k ≡ true → k ≡ LineFeed → ⊥
not_feed LineFeed h e = cc
not_feed CarriageReturn h e = cc
not_feed Backslash h e = cc
not_feed Blank h e = cc
not_feed Ordinary h e = cc

-- a text without LF and CR with a line end is the first physical line, whatever follows
physical-ended : (e : End) (t rest : List ℕ) → has_no_line_end e ≡ false → HasNoLineEnd t → physical_lines (t ++ (line_end_bytes e ++ rest)) ≡ (t ++ line_end_bytes e) ∷ physical_lines rest
physical-ended ends.None [] rest h n = absurd (cc)
physical-ended ends.Lf [] rest h n = refl
physical-ended ends.CrLf [] rest h n = refl
physical-ended e (b ∷ t) rest h n =
    before_lines-ordinary (byte_kind b) b (physical_lines (t ++ (line_end_bytes e ++ rest))) (not_feed (byte_kind b) n.0)
    ∙ ap (onto_first (b ∷ [])) (physical-ended e t rest h n.1)

-- one without a line end is the last
physical-last : (b : ℕ) (t : List ℕ) → HasNoLineEnd (b ∷ t) → physical_lines (b ∷ t) ≡ (b ∷ t) ∷ []
physical-last b [] n = before_lines-ordinary (byte_kind b) b [] (not_feed (byte_kind b) n.0)
physical-last b (c ∷ t) n = before_lines-ordinary (byte_kind b) b (physical_lines (c ∷ t)) (not_feed (byte_kind b) n.0) ∙ ap (onto_first (b ∷ [])) (physical-last c t n.1)

no_line_feed-last : (t : List ℕ) → HasNoLineEnd t → FirstIsNot LineFeed (reverse t)
no_line_feed-last [] n = tt
no_line_feed-last (b ∷ t) n = subst (FirstIsNot LineFeed) (sym (reverse-append (b ∷ []) t)) (front (reverse t) (no_line_feed-last t n.1))
  where
    front : (r : List ℕ) → FirstIsNot LineFeed r → FirstIsNot LineFeed (r ++ b ∷ [])
    front [] h = not_feed (byte_kind b) n.0
    front (c ∷ r) h = h

text-ended : (e : End) (t : List ℕ) → HasNoLineEnd t → without_line_end (t ++ line_end_bytes e) ≡ t
text-ended e t n = without_line_end-append t e (apart e)
  where
    apart : (e : End) → KeepsApart e (reverse t)
    apart ends.None = no_line_feed-last t n
    apart ends.Lf = no_carriage_return-last t n
    apart ends.CrLf = tt

clean-text : (t : List ℕ) → not (is_clean t) ≡ false → HasNoLineEnd t
clean-text t h = go (is_clean t) refl h
  where
    go : (b : Bool) → is_clean t ≡ b → not b ≡ false → HasNoLineEnd t
    go true e k = clean-no_line_end t e
    go false e k = absurd (cc)

-- clean texts with line ends, the last of which has one or is not empty
ended-said : (e z : End) (ts : List (List ℕ)) → has_no_line_end e ≡ false → (has_no_line_end z && last_passes is_empty ts) ≡ false → list_any (λ x. not (is_clean x)) ts ≡ false → texts_of (with_line_ends e z ts) ≡ ts
ended-said e z [] h k c = refl
ended-said e z (t ∷ []) h k c = ap (λ x. map without_line_end x) (one z t k n) ∙ ap (λ x. x ∷ []) (text-ended z t n)
  where
    n : HasNoLineEnd t
    n = clean-text t (or-left_false (not (is_clean t)) (list_any (λ x. not (is_clean x)) []) c)

    one : (z : End) (t : List ℕ) → (has_no_line_end z && is_empty t) ≡ false → HasNoLineEnd t → physical_lines (t ++ line_end_bytes z) ≡ (t ++ line_end_bytes z) ∷ []
    one ends.None [] k n = absurd (cc)
    one ends.None (b ∷ t) k n = subst (λ x. physical_lines x ≡ x ∷ []) (sym (append-nil (b ∷ t))) (physical-last b t n)
    one ends.Lf t k n = physical-ended ends.Lf t [] refl n
    one ends.CrLf t k n = physical-ended ends.CrLf t [] refl n
ended-said e z (t ∷ u ∷ ts) h k c =
    let n : HasNoLineEnd t = clean-text t (or-left_false (not (is_clean t)) (list_any (λ x. not (is_clean x)) (u ∷ ts)) c) in
    let rest = with_line_ends e z (u ∷ ts) in
    ap (λ x. map without_line_end x) (physical-ended e t rest h n)
    ∙ (ap (λ x. x ∷ texts_of rest) (text-ended e t n) ∙ ap (λ x. t ∷ x) (ended-said e z (u ∷ ts) h k (or-right_false (not (is_clean t)) (list_any (λ x. not (is_clean x)) (u ∷ ts)) c)))

-- the new lines of a block say it
pub new-said : (t : List ℕ) (ts : List (List ℕ)) (s : Stretch) → is_block ts ≡ true → said (logical_lines (block_text t ts s)) ≡ ts
new-said t ts s h =
    let e = last_line_end (file_line_end t) s.lines in
    let some : has_no_line_end e ≡ false = last_line_end-some (file_line_end t) s.lines (file_line_end-some t) in
    ap (λ x. map without_line_end x) (physical-logical (block_text t ts s))
    ∙ ended-said e _ ts some (filled (last_passes lacks_line_end s.lines) (last_passes is_empty ts) e some) (clean (is_empty ts) (list_any (λ x. not (is_clean x)) ts) (last_passes ends_with_odd_run ts) h)
  where
    clean : (a b c : Bool) → (not a && (not b && not c)) ≡ true → b ≡ false
    clean true b c h = absurd (cc)
    clean false true c h = absurd (cc)
    clean false false c h = refl

    filled : (a b : Bool) (e : End) → has_no_line_end e ≡ false → (has_no_line_end (if a && not b then ends.None else e) && b) ≡ false
    filled true true e h = ap (λ y. y && true) h
    filled true false e h = refl
    filled false true e h = ap (λ y. y && true) h
    filled false false e h = ap (λ y. y && false) h
