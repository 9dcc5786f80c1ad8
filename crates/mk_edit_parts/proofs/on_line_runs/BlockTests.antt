-- Whether a text may be a block, by its bytes.
use Rattle.std.proofs.Common.{◌≡◌, refl, sym, ap, ◌∙◌, ℕ, ◌==◌, ◌&&◌, ◌||◌, not, if◌then◌else◌, Bool, true, false, List, [], ◌∷◌, ◌++◌, append_assoc, reverse, eqb-true}
use Rattle.std.specs.List.{list_any}
use Rattle.std.proofs.lemmas.List.{reverse-append}
use Rattle.mk_lines.specs.Lists.{onto_first}
use Rattle.mk_lines.specs.Bytes.{ByteKind, LineFeed, CarriageReturn, Backslash, Blank, Ordinary, byte_kind}
use Rattle.mk_lines.specs.LogicalLines.{starts_with_odd_run, starts_with_odd_run_at, ends_with_odd_run}
use Rattle.mk_lines.proofs.on_lines.LineCut.{onto_first-twice}
use Rattle.mk_class.specs.ListTests.{is_empty, last_passes}
use Rattle.mk_class.specs.Arguments.{is_line_end_kind, is_barred_byte, is_clean}
use Rattle.mk_edit_language.specs.LineRuns.{before_texts, block_lines, is_block}
use Rattle.mk_edit_parts.specs.LineRunWalks.{is_stray_byte}
use Rattle.mk_edit_parts.proofs.on_line_runs.BlockTexts.{block-front}

-- ---- the bytes that no line may have

kind-end : (p q r s : Bool) → is_line_end_kind (if p then CarriageReturn else if q then Backslash else if r then Blank else if s then Blank else Ordinary) ≡ p
kind-end true q r s = refl
kind-end false true r s = refl
kind-end false false true s = refl
kind-end false false false true = refl
kind-end false false false false = refl

barred-stray : (b : ℕ) → (b == 10) ≡ false → is_barred_byte b ≡ is_stray_byte b
barred-stray b h =
    ap (λ f. is_line_end_kind (if f then LineFeed else if b == 13 then CarriageReturn else if b == 92 then Backslash else if b == 32 then Blank else if b == 9 then Blank else Ordinary) || (b == 0)) h
    ∙ ap (λ e. e || (b == 0)) (kind-end (b == 13) (b == 92) (b == 32) (b == 9))

unclean-barred : (t : List ℕ) → not (is_clean t) ≡ list_any is_barred_byte t
unclean-barred t = twice (list_any is_barred_byte t)
  where
    twice : (p : Bool) → not (not p) ≡ p
    twice true = refl
    twice false = refl

or-grouped : (a b c : Bool) → ((a || b) || c) ≡ (a || (b || c))
or-grouped true b c = refl
or-grouped false b c = refl

any-block : (u : List ℕ) → list_any (λ t. not (is_clean t)) (block_lines u) ≡ list_any is_stray_byte u
any-block [] = refl
any-block (b ∷ u) = go (b == 10) refl (any-block u)
  where
    feed : (b == 10) ≡ true → is_stray_byte b ≡ false
    feed e = ap is_stray_byte (eqb-true b 10 e)

    onto : (ts : List (List ℕ)) (x : List ℕ) (rest : List (List ℕ)) → ts ≡ x ∷ rest → (b == 10) ≡ false → list_any (λ t. not (is_clean t)) (onto_first (b ∷ []) ts) ≡ (is_stray_byte b || list_any (λ t. not (is_clean t)) ts)
    onto ts x rest e h =
        ap (λ z. list_any (λ t. not (is_clean t)) (onto_first (b ∷ []) z)) e
        ∙ (ap (λ q. q || list_any (λ t. not (is_clean t)) rest) (unclean-barred (b ∷ x) ∙ ap (λ q. q || list_any is_barred_byte x) (barred-stray b h))
        ∙ (or-grouped (is_stray_byte b) (list_any is_barred_byte x) (list_any (λ t. not (is_clean t)) rest)
        ∙ (ap (λ q. is_stray_byte b || (q || list_any (λ t. not (is_clean t)) rest)) (sym (unclean-barred x)) ∙ ap (λ z. is_stray_byte b || list_any (λ t. not (is_clean t)) z) (sym e))))

    go : (q : Bool) → (b == 10) ≡ q → list_any (λ t. not (is_clean t)) (block_lines u) ≡ list_any is_stray_byte u
        → list_any (λ t. not (is_clean t)) (before_texts q b (block_lines u)) ≡ (is_stray_byte b || list_any is_stray_byte u)
    go true e ih = ih ∙ ap (λ q. q || list_any is_stray_byte u) (sym (feed e))
    go false e ih = let f = block-front u in onto (block_lines u) f.first f.rest f.lines_are e ∙ ap (λ q. is_stray_byte b || q) ih

-- ---- backslashes at the end

-- a run of backslashes ends before a byte that is none
run-before : (a : List ℕ) (b : ℕ) (t : List ℕ) → (byte_kind b ≡ Backslash → ⊥) → starts_with_odd_run (a ++ b ∷ t) ≡ starts_with_odd_run a
run-before [] b t h = at (byte_kind b) (starts_with_odd_run t) h
  where
    at : (k : ByteKind) (r : Bool) → (k ≡ Backslash → ⊥) → starts_with_odd_run_at k r ≡ false
    at Backslash r h = absurd (h refl)
    at LineFeed r h = refl
    at CarriageReturn r h = refl
    at Blank r h = refl
    at Ordinary r h = refl
run-before (x ∷ a) b t h = ap (starts_with_odd_run_at (byte_kind x)) (run-before a b t h)

feed-between : (a t : List ℕ) → ends_with_odd_run (a ++ 10 ∷ t) ≡ ends_with_odd_run t
feed-between a t =
    ap starts_with_odd_run (reverse-append a (10 ∷ t) ∙ (ap (λ z. z ++ reverse a) (reverse-append (10 ∷ []) t) ∙ append_assoc (reverse t) (10 ∷ []) (reverse a)))
    ∙ run-before (reverse t) 10 (reverse a) (λ e. let k : LineFeed ≡ Backslash = e in cc)

last-further : (x : List ℕ) (ts : List (List ℕ)) (y : List ℕ) (rest : List (List ℕ)) → ts ≡ y ∷ rest → last_passes ends_with_odd_run (x ∷ ts) ≡ last_passes ends_with_odd_run (onto_first [] ts)
last-further x ts y rest e = ap (λ z. last_passes ends_with_odd_run (x ∷ z)) e ∙ sym (ap (λ z. last_passes ends_with_odd_run (onto_first [] z)) e)

-- the last line of a block, with something before its first line
last-block : (t u : List ℕ) → last_passes ends_with_odd_run (onto_first t (block_lines u)) ≡ ends_with_odd_run (t ++ u)
last-block t [] = refl
last-block t (b ∷ u) = go (b == 10) refl (last-block [] u) (last-block (t ++ b ∷ []) u)
  where
    go : (q : Bool) → (b == 10) ≡ q → last_passes ends_with_odd_run (onto_first [] (block_lines u)) ≡ ends_with_odd_run u
        → last_passes ends_with_odd_run (onto_first (t ++ b ∷ []) (block_lines u)) ≡ ends_with_odd_run ((t ++ b ∷ []) ++ u)
        → last_passes ends_with_odd_run (onto_first t (before_texts q b (block_lines u))) ≡ ends_with_odd_run (t ++ b ∷ u)
    go true e below here =
        let f = block-front u in
        last-further (t ++ []) (block_lines u) f.first f.rest f.lines_are
        ∙ (below ∙ (sym (feed-between t u) ∙ ap (λ n. ends_with_odd_run (t ++ n ∷ u)) (sym (eqb-true b 10 e))))
    go false e below here =
        ap (last_passes ends_with_odd_run) (onto_first-twice t (b ∷ []) (block_lines u)) ∙ (here ∙ ap ends_with_odd_run (append_assoc t (b ∷ []) u))

odd-block : (u : List ℕ) → last_passes ends_with_odd_run (block_lines u) ≡ ends_with_odd_run u
odd-block u =
    let f = block-front u in
    ap (last_passes ends_with_odd_run) (f.lines_are ∙ sym (ap (onto_first []) f.lines_are)) ∙ last-block [] u

-- ---- the test

block-told : (u : List ℕ) → (not (list_any is_stray_byte u) && not (ends_with_odd_run u)) ≡ is_block (block_lines u)
block-told u =
    let f = block-front u in
    let unclean = list_any (λ t. not (is_clean t)) (block_lines u) in
    let odd = last_passes ends_with_odd_run (block_lines u) in
    let filled : is_block (block_lines u) ≡ (not unclean && not odd) = ap (λ z. not (is_empty z) && (not unclean && not odd)) f.lines_are in
    sym (ap (λ q. not q && not (ends_with_odd_run u)) (any-block u)) ∙ (sym (ap (λ q. not unclean && not q) (odd-block u)) ∙ sym filled)

pub block-stray : (u : List ℕ) (s : Bool) → s ≡ list_any is_stray_byte u → s ≡ true → not s ≡ is_block (block_lines u)
block-stray u s e h =
    let n : list_any is_stray_byte u ≡ true = sym e ∙ h in
    ap not h ∙ (sym (ap (λ q. not q && not (ends_with_odd_run u)) n) ∙ block-told u)

pub block-clean : (u : List ℕ) (s o : Bool) → s ≡ list_any is_stray_byte u → s ≡ false → o ≡ ends_with_odd_run u → not o ≡ is_block (block_lines u)
block-clean u s o e h i =
    let n : list_any is_stray_byte u ≡ false = sym e ∙ h in
    ap not i ∙ (sym (ap (λ q. not q && not (ends_with_odd_run u)) n) ∙ block-told u)

-- a block has a line
pub block-some : (u : List ℕ) → is_block (block_lines u) ≡ (is_empty (block_lines u) || is_block (block_lines u))
block-some u = let f = block-front u in sym (ap (λ z. is_empty z || is_block (block_lines u)) f.lines_are)
