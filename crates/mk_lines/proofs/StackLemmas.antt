-- Lemmas on the stack of cells, and on the bytes that make cells.
use Rattle.std.proofs.Common.{◌≡◌, refl, sym, ap, ◌∙◌, subst, ℕ, suc, ◌+◌, ◌-◌, ◌<◌, ◌≤◌, Bool, true, false, cond, not, ◌⊎◌, inl, inr, List, [], ◌∷◌, ◌++◌, map, length, take, drop, length-append, length-drop, get_or, arith, Option, None, Some, is_some, ⊎_elim}
use Rattle.std.specs.Prelude.{◌==◌, ◌&&◌, ◌||◌, All}
use Rattle.std.specs.List.{list_any, prefix_len}
use Rattle.std.proofs.lemmas.List.{append-nil, drop-drop, take-append-drop, get_or-take, get_or-drop, length-take-le}
use Rattle.std.proofs.lemmas.List.Elements.{All-from_get_or, All-head, All-tail}
use Rattle.std.proofs.lemmas.Bool.{cases_lt, eqb-true}
use Rattle.std.proofs.lemmas.Bool.Decides.{Decides-eqb}
use Rattle.std.proofs.Math.Seq.{drop-append_seam, take-length}
use Rattle.memchr.specs.Find.{IsFirstByte, Nowhere, Passes, is_byte, is_byte3}
use Rattle.mk_lines.specs.Lists.{leading, after_leading, FirstFails}
use Rattle.mk_lines.specs.Bytes.{ByteKind, LineFeed, CarriageReturn, Backslash, Blank, Ordinary, byte_kind, is_blank_kind, is_backslash_kind}
use Rattle.mk_lines.proofs.on_lists.ByteLemmas.{line_feed-byte, carriage_return-byte, blank-byte, search-any}
use Rattle.mk_lines.specs.Cells.{Cell, Byte, Fold, LfEnd, CrLfEnd, raw_text, joined_byte, joined_text, is_blank_cell, prepend, cells}
use Rattle.mk_lines.specs.CellFaults.{has_bad_fold, is_fold_first, is_stray_by}
use Rattle.mk_lines.proofs.on_lists.ListLemmas.{leading-after_leading, leading-append_all, after_leading-append_all}
use Rattle.mk_lines.proofs.on_cells.CellLemmas.{AreCells, FitsBefore, raw_text-bytes}
use Rattle.mk_lines.specs.StoredCells.{fold_ends}
use Rattle.mk_lines.specs.CellStack.{CellStack, top_of, stack_of}
use Rattle.mk_lines.specs.declared.cells.stored.FoldEnd.{FoldEnd}
use Rattle.mk_lines.specs.declared.cells.stack.Top.{Top}
use Rattle.mk_lines.specs.declared.cells.stack.Top.TheVariants as top

-- ---- bytes

different : (b n : ℕ) → (b == n) ≡ false → b ≡ n → ⊥
different b n h e = let g : (b == n) ≡ true = (Decides-eqb b n).1 e in cc

-- a blank is a space or a tab
blank_test : (b : ℕ) → is_blank_kind (byte_kind b) ≡ (b == 32 || b == 9)
blank_test b = split (b == 32) refl (b == 9) refl
  where
    other : (k : ByteKind) → byte_kind b ≡ k → (b ≡ 32 → ⊥) → (b ≡ 9 → ⊥) → is_blank_kind k ≡ false
    other LineFeed h m n = refl
    other CarriageReturn h m n = refl
    other Backslash h m n = refl
    other Ordinary h m n = refl
    other Blank h m n = go (blank-byte b h)
      where
        go : (b ≡ 32) ⊎ (b ≡ 9) → true ≡ false
        go (inl e) = absurd (m e)
        go (inr e) = absurd (n e)

    split : (c : Bool) → (b == 32) ≡ c → (d : Bool) → (b == 9) ≡ d → is_blank_kind (byte_kind b) ≡ (c || d)
    split true e d f = ap (λ z. is_blank_kind (byte_kind z)) (eqb-true b 32 e)
    split false e true f = ap (λ z. is_blank_kind (byte_kind z)) (eqb-true b 9 f)
    split false e false f = other (byte_kind b) refl (different b 32 e) (different b 9 f)

-- how many blanks a text begins with
prefix_len-blanks : (t : List ℕ) → prefix_len (λ b. b == 32 || b == 9) t ≡ length (leading (λ b. is_blank_kind (byte_kind b)) t)
prefix_len-blanks [] = refl
prefix_len-blanks (b ∷ t) =
    ap (λ c. cond c (1 + prefix_len (λ b. b == 32 || b == 9) t) 0) (sym (blank_test b)) ∙ go (is_blank_kind (byte_kind b)) (leading (λ b. is_blank_kind (byte_kind b)) t) (prefix_len-blanks t)
  where
    go : (c : Bool) (l : List ℕ) → prefix_len (λ b. b == 32 || b == 9) t ≡ length l → cond c (1 + prefix_len (λ b. b == 32 || b == 9) t) 0 ≡ length (cond c (b ∷ l) [])
    go true l h = omega (arith, h)
    go false l h = refl

-- the number of blanks, as a function that reads the text from an offset on counts them
pub counted-blanks : (text : List ℕ) (k n : ℕ) → n ≡ prefix_len (λ b. b == 32 || b == 9) (take (length text - k) (drop k text)) → n ≡ length (leading (λ b. is_blank_kind (byte_kind b)) (drop k text))
counted-blanks text k n h =
    let w : take (length text - k) (drop k text) ≡ drop k text = ap (λ m. take m (drop k text)) (sym (length-drop k text)) ∙ take-length (drop k text) in
    h ∙ (ap (prefix_len (λ b. b == 32 || b == 9)) w ∙ prefix_len-blanks (drop k text))

-- a stray byte is a NUL, a line feed or a carriage return
stray_test : (b : ℕ) → is_stray_by (byte_kind b) (b == 0) ≡ is_byte3 0 10 13 b
stray_test b = split (b == 10) refl (b == 13) refl
  where
    or_false : (z : Bool) → z ≡ ((z || false) || false)
    or_false true = refl
    or_false false = refl

    other : (k : ByteKind) → byte_kind b ≡ k → (b ≡ 10 → ⊥) → (b ≡ 13 → ⊥) → is_stray_by k (b == 0) ≡ ((b == 0 || false) || false)
    other LineFeed h m n = absurd (m (line_feed-byte b h))
    other CarriageReturn h m n = absurd (n (carriage_return-byte b h))
    other Backslash h m n = or_false (b == 0)
    other Ordinary h m n = or_false (b == 0)
    other Blank h m n = or_false (b == 0)

    split : (c : Bool) → (b == 10) ≡ c → (d : Bool) → (b == 13) ≡ d → is_stray_by (byte_kind b) (b == 0) ≡ ((b == 0 || c) || d)
    split true e d f = rw (eqb-true b 10 e) refl
    split false e true f = rw (eqb-true b 13 f) refl
    split false e false f = other (byte_kind b) refl (different b 10 e) (different b 13 f)

any_same : (p q : ℕ → Bool) → ((b : ℕ) → p b ≡ q b) → (t : List ℕ) → list_any p t ≡ list_any q t
any_same p q h [] = refl
any_same p q h (b ∷ t) = rw (h b, any_same p q h t) refl

-- a search for stray bytes
pub search-stray : (t : List ℕ) (r : Option ℕ) → IsFirstByte (is_byte3 0 10 13) t r → is_some r ≡ list_any (λ b. is_stray_by (byte_kind b) (b == 0)) t
search-stray t r h = search-any (is_byte3 0 10 13) t r h ∙ any_same (is_byte3 0 10 13) (λ b. is_stray_by (byte_kind b) (b == 0)) (λ b. sym (stray_test b)) t

-- a search that finds no line feed
pub search-no_line_feed : (t : List ℕ) → IsFirstByte (is_byte 10) t None → All (λ b. b ≡ 10 → ⊥) t
search-no_line_feed t h = All-from_get_or (λ b. b ≡ 10 → ⊥) t 0 (λ k l e. h k (omega arith) l ((Decides-eqb (get_or t k 0) 10).1 e))

-- an offset that was found behind another, by the offset in the whole text
abbrev further : ℕ → Option ℕ → Option ℕ
further first None = None
further first (Some n) = Some (first + n)

-- a search for a line feed from the first stray byte on, as a search of the whole text
pub search-further : (t : List ℕ) (first : ℕ) (r : Option ℕ) → IsFirstByte (is_byte3 0 10 13) t (Some first) → IsFirstByte (is_byte 10) (take (length t - first) (drop first t)) r → IsFirstByte (is_byte 10) t (further first r)
search-further t first r h g = moved r (subst (λ u. IsFirstByte (is_byte 10) u r) (ap (λ m. take m (drop first t)) (sym (length-drop first t)) ∙ take-length (drop first t)) g)
  where
    before : (k : ℕ) → k < first → Passes (is_byte 10) t k → ⊥
    before k l e = let feed : get_or t k 0 ≡ 10 = eqb-true (get_or t k 0) 10 e in h.0.before k (omega arith) l (rw feed refl)

    -- at an offset behind the first stray byte
    at : (k : ℕ) → first ≤ k → get_or (drop first t) (k - first) 0 ≡ get_or t k 0
    at k l = get_or-drop first t (k - first) 0 ∙ ap (λ i. get_or t i 0) (omega arith)

    none : (end k : ℕ) → Nowhere (Passes (is_byte 10) (drop first t)) 0 end → k < first + end → Passes (is_byte 10) t k → ⊥
    none end k g l e = ⊎_elim (λ low. before k low e) (λ high. g (k - first) (omega arith) (omega arith) (ap (λ b. b == 10) (at k high) ∙ e)) (cases_lt k first)

    moved : (r : Option ℕ) → IsFirstByte (is_byte 10) (drop first t) r → IsFirstByte (is_byte 10) t (further first r)
    moved None g = λ k low high e. none (length (drop first t)) k g (omega (arith, length-drop first t)) e
    moved (Some n) g =
        let within : n < length (drop first t) = g.0.high in
        (record { low = omega arith; high = omega (arith, length-drop first t); before = λ k low high e. none n k g.0.before high e }, ap (λ b. b == 10) (sym (get_or-drop first t n 0)) ∙ g.1)

-- ---- the stack

-- what is known of a stack whose first cell becomes another
pub record IsReplaced (old : CellStack) (byte : ℕ) (first : Top) (new : CellStack) : Type 0 where
  pub before : List ℕ
  pub last : ℕ
  pub was : old.joined ≡ last ∷ before
  pub is : ◌≡◌ {A = CellStack} (record { joined = byte ∷ before; ends = old.ends; top = first; bad_fold = old.bad_fold }) new

-- stacks with the same parts
same_stack : (j k : List ℕ) (d e : List FoldEnd) (t : Top) (b c : Bool) → j ≡ k → d ≡ e → b ≡ c
    → ◌≡◌ {A = CellStack} (record { joined = j; ends = d; top = t; bad_fold = b }) (record { joined = k; ends = e; top = t; bad_fold = c })
same_stack j k d e t b c p q r = rw (p, q, r) refl

ends_at : (m n : ℕ) (cs : List Cell) → m ≡ n → fold_ends m cs ++ record { after = length cs; raw_end = m } ∷ [] ≡ fold_ends n cs ++ record { after = length cs; raw_end = n } ∷ []
ends_at m n cs e = ap (λ z. fold_ends z cs ++ record { after = length cs; raw_end = z } ∷ []) e

-- a first cell with these raw bytes becomes another with one raw byte more
replaced : (offset : ℕ) (r : List ℕ) (cs : List Cell) (was byte : ℕ) (first second : Top)
    → IsReplaced (record { joined = was ∷ joined_text cs; ends = fold_ends (offset + 1 + length r) cs ++ record { after = length cs; raw_end = offset + 1 + length r } ∷ []; top = first; bad_fold = has_bad_fold cs }) byte second
    (record { joined = byte ∷ joined_text cs; ends = fold_ends (offset + suc (length r)) cs ++ record { after = length cs; raw_end = offset + suc (length r) } ∷ []; top = second; bad_fold = has_bad_fold cs })
replaced offset r cs was byte first second = record {
  before = joined_text cs;
  last = was;
  was = refl;
  is = same_stack (byte ∷ joined_text cs) (byte ∷ joined_text cs)
      (fold_ends (offset + 1 + length r) cs ++ record { after = length cs; raw_end = offset + 1 + length r } ∷ []) (fold_ends (offset + suc (length r)) cs ++ record { after = length cs; raw_end = offset + suc (length r) } ∷ [])
      second (has_bad_fold cs) (has_bad_fold cs) refl (ends_at (offset + 1 + length r) (offset + suc (length r)) cs (omega arith)) refl;
}

-- a backslash makes a fold of a line end
pub backslash-line_end : (offset : ℕ) (cs : List Cell) → (top_of cs ≡ top.Lf) ⊎ (top_of cs ≡ top.CrLf) → IsReplaced (stack_of (offset + 1) cs) 32 top.Fold (stack_of offset (prepend Backslash 92 cs))
backslash-line_end offset [] (inl e) = cc
backslash-line_end offset [] (inr e) = cc
backslash-line_end offset (Byte b ∷ cs) (inl e) = cc
backslash-line_end offset (Byte b ∷ cs) (inr e) = cc
backslash-line_end offset (Fold r ∷ cs) (inl e) = cc
backslash-line_end offset (Fold r ∷ cs) (inr e) = cc
backslash-line_end offset (LfEnd r ∷ cs) h = replaced offset r cs 10 32 top.Lf top.Fold
backslash-line_end offset (CrLfEnd r ∷ cs) h = replaced offset r cs 10 32 top.CrLf top.Fold

fits-first_fails : (r : List ℕ) (cs : List Cell) → FitsBefore (Fold r) cs → FirstFails is_blank_cell cs
fits-first_fails r [] h = tt
fits-first_fails r (d ∷ cs) h = go (is_blank_cell d) h
  where
    go : (c : Bool) → not c ≡ true → c ≡ false
    go true e = cc
    go false e = refl

-- a line feed takes a fold directly after it
pub line_feed-fold : (offset : ℕ) (cs : List Cell) → AreCells cs → top_of cs ≡ top.Fold → IsReplaced (stack_of (offset + 1) cs) 10 top.Lf (stack_of offset (prepend LineFeed 10 cs))
line_feed-fold offset [] f e = cc
line_feed-fold offset (Byte b ∷ cs) f e = cc
line_feed-fold offset (LfEnd r ∷ cs) f e = cc
line_feed-fold offset (CrLfEnd r ∷ cs) f e = cc
line_feed-fold offset (Fold r ∷ cs) f e =
    let l : leading is_blank_cell cs ≡ [] = leading-append_all is_blank_cell [] cs tt (fits-first_fails r cs f.1) in
    let a : after_leading is_blank_cell cs ≡ cs = after_leading-append_all is_blank_cell [] cs tt (fits-first_fails r cs f.1) in
    let s : r ++ [] ≡ r = append-nil r in
    rw (l, a, s) (replaced offset r cs 32 10 top.Fold top.Lf)

-- ---- a line feed before blanks

-- if the first cell is no fold, the blanks and folds at the front are the blanks of the text
leading-blanks : (t : List ℕ) → (top_of (cells t) ≡ top.Fold → ⊥) → leading is_blank_cell (cells t) ≡ map Byte (leading (λ b. is_blank_kind (byte_kind b)) t)
leading-blanks [] h = refl
leading-blanks (b ∷ t) h = go (byte_kind b) refl (cells t) (leading (λ b. is_blank_kind (byte_kind b)) t) h (λ n. leading-blanks t n)
  where
    stays : (k : ByteKind) (cs : List Cell) (l : List ℕ) → byte_kind b ≡ k → is_blank_kind k ≡ false → leading is_blank_cell (Byte b ∷ cs) ≡ map Byte (cond (is_blank_kind (byte_kind b)) (b ∷ l) [])
    stays k cs l e h = rw (e, h) refl

    line_end : (k : ByteKind) (l : List ℕ) → byte_kind b ≡ k → is_blank_kind k ≡ false → [] ≡ map Byte (cond (is_blank_kind (byte_kind b)) (b ∷ l) [])
    line_end k l e h = rw (e, h) refl

    blank : (cs : List Cell) (l : List ℕ) → byte_kind b ≡ Blank → leading is_blank_cell cs ≡ map Byte l → leading is_blank_cell (Byte b ∷ cs) ≡ map Byte (cond (is_blank_kind (byte_kind b)) (b ∷ l) [])
    blank cs l e h = rw (e, h) refl

    go : (k : ByteKind) → byte_kind b ≡ k → (cs : List Cell) (l : List ℕ) → (top_of (prepend k b cs) ≡ top.Fold → ⊥) → ((top_of cs ≡ top.Fold → ⊥) → leading is_blank_cell cs ≡ map Byte l)
        → leading is_blank_cell (prepend k b cs) ≡ map Byte (cond (is_blank_kind (byte_kind b)) (b ∷ l) [])
    go LineFeed e cs l h i = line_end LineFeed l e refl
    go CarriageReturn e [] l h i = stays CarriageReturn [] l e refl
    go CarriageReturn e (Byte x ∷ cs) l h i = stays CarriageReturn (Byte x ∷ cs) l e refl
    go CarriageReturn e (Fold r ∷ cs) l h i = stays CarriageReturn (Fold r ∷ cs) l e refl
    go CarriageReturn e (LfEnd r ∷ cs) l h i = line_end CarriageReturn l e refl
    go CarriageReturn e (CrLfEnd r ∷ cs) l h i = stays CarriageReturn (CrLfEnd r ∷ cs) l e refl
    go Backslash e [] l h i = stays Backslash [] l e refl
    go Backslash e (Byte x ∷ cs) l h i = stays Backslash (Byte x ∷ cs) l e refl
    go Backslash e (Fold r ∷ cs) l h i = stays Backslash (Fold r ∷ cs) l e refl
    go Backslash e (LfEnd r ∷ cs) l h i = absurd (h refl)
    go Backslash e (CrLfEnd r ∷ cs) l h i = absurd (h refl)
    go Blank e [] l h i = blank [] l e (i (λ x. cc))
    go Blank e (Byte x ∷ cs) l h i = blank (Byte x ∷ cs) l e (i (λ x. cc))
    go Blank e (Fold r ∷ cs) l h i = absurd (h refl)
    go Blank e (LfEnd r ∷ cs) l h i = blank (LfEnd r ∷ cs) l e (i (λ x. cc))
    go Blank e (CrLfEnd r ∷ cs) l h i = blank (CrLfEnd r ∷ cs) l e (i (λ x. cc))
    go Ordinary e cs l h i = stays Ordinary cs l e refl

bad_fold-after_leading : (cs : List Cell) → has_bad_fold (after_leading is_blank_cell cs) ≡ has_bad_fold cs
bad_fold-after_leading [] = refl
bad_fold-after_leading (c ∷ cs) = go (byte_kind (joined_byte c)) refl (bad_fold-after_leading cs)
  where
    go : (k : ByteKind) → byte_kind (joined_byte c) ≡ k → has_bad_fold (after_leading is_blank_cell cs) ≡ has_bad_fold cs
        → has_bad_fold (cond (is_blank_kind k) (after_leading is_blank_cell cs) (c ∷ cs)) ≡ ((is_backslash_kind k && is_fold_first cs) || has_bad_fold cs)
    go Blank e i = i
    go LineFeed e i = rw e refl
    go CarriageReturn e i = rw e refl
    go Backslash e i = rw e refl
    go Ordinary e i = rw e refl

joined_text-blanks : (v : List ℕ) (cs : List Cell) → joined_text (map Byte v ++ cs) ≡ v ++ joined_text cs
joined_text-blanks [] cs = refl
joined_text-blanks (b ∷ v) cs = ap (λ z. b ∷ z) (joined_text-blanks v cs)

fold_ends-blanks : (at : ℕ) (v : List ℕ) (cs : List Cell) → fold_ends at (map Byte v ++ cs) ≡ fold_ends (at + length v) cs
fold_ends-blanks at [] cs = ap (λ z. fold_ends z cs) (omega arith)
fold_ends-blanks at (b ∷ v) cs = fold_ends-blanks (at + 1) v cs ∙ ap (λ z. fold_ends z cs) (omega arith)

length-joined_text : (cs : List Cell) → length (joined_text cs) ≡ length cs
length-joined_text [] = refl
length-joined_text (c ∷ cs) = ap suc (length-joined_text cs)

-- the joined bytes that stay behind a line feed
stored_joined : (v : List ℕ) (cs : List Cell) → drop (length v) (joined_text (map Byte v ++ cs)) ≡ joined_text cs
stored_joined v cs = ap (drop (length v)) (joined_text-blanks v cs) ∙ drop-append_seam v (joined_text cs)

-- there are at least as many cells on the stack as blanks at the front of the text
pub blanks-stacked : (t : List ℕ) → (top_of (cells t) ≡ top.Fold → ⊥) → length (leading (λ b. is_blank_kind (byte_kind b)) t) ≤ length (joined_text (cells t))
blanks-stacked t h =
    let v = leading (λ b. is_blank_kind (byte_kind b)) t in
    let R = after_leading is_blank_cell (cells t) in
    let e : cells t ≡ map Byte v ++ R = sym (leading-after_leading is_blank_cell (cells t)) ∙ ap (λ z. z ++ R) (leading-blanks t h) in
    let j : joined_text (cells t) ≡ v ++ joined_text R = ap joined_text e ∙ joined_text-blanks v R in
    omega (arith, ap length j, length-append v (joined_text R))

-- a line feed before cells whose first is no fold
line_feed-blanks : (offset : ℕ) (t : List ℕ) → (top_of (cells t) ≡ top.Fold → ⊥) → (joined : List ℕ) (n : ℕ) → n ≡ length (leading (λ b. is_blank_kind (byte_kind b)) t)
    → joined ≡ drop n (joined_text (cells t))
    → ◌≡◌ {A = CellStack} (record { joined = 10 ∷ joined; ends = fold_ends (offset + 1) (cells t) ++ record { after = length joined; raw_end = offset + 1 + n } ∷ []; top = top.Lf; bad_fold = has_bad_fold (cells t) })
    (stack_of offset (prepend LineFeed 10 (cells t)))
line_feed-blanks offset t h joined n m j =
    let v = leading (λ b. is_blank_kind (byte_kind b)) t in
    let R = after_leading is_blank_cell (cells t) in
    let L : leading is_blank_cell (cells t) ≡ map Byte v = leading-blanks t h in
    let e : cells t ≡ map Byte v ++ R = sym (leading-after_leading is_blank_cell (cells t)) ∙ ap (λ z. z ++ R) L in
    let k : joined ≡ joined_text R = j ∙ (ap (λ z. drop z (joined_text (cells t))) m ∙ (ap (λ z. drop (length v) (joined_text z)) e ∙ stored_joined v R)) in
    let w : length (raw_text (leading is_blank_cell (cells t))) ≡ n = ap (λ z. length (raw_text z)) L ∙ (ap length (raw_text-bytes v) ∙ sym m) in
    let p : offset + 1 + n ≡ offset + suc (length (raw_text (leading is_blank_cell (cells t)))) = omega (arith, w) in
    let c : length joined ≡ length R = ap length k ∙ length-joined_text R in
    let f : fold_ends (offset + 1) (cells t) ≡ fold_ends (offset + 1 + n) R = ap (fold_ends (offset + 1)) e ∙ (fold_ends-blanks (offset + 1) v R ∙ ap (λ z. fold_ends (offset + 1 + z) R) (sym m)) in
    let x : fold_ends (offset + 1) (cells t) ++ record { after = length joined; raw_end = offset + 1 + n } ∷ [] ≡ fold_ends (offset + 1 + n) R ++ record { after = length R; raw_end = offset + 1 + n } ∷ [] =
    ap (λ z. z ++ record { after = length joined; raw_end = offset + 1 + n } ∷ []) f ∙ ap (λ z. fold_ends (offset + 1 + n) R ++ record { after = z; raw_end = offset + 1 + n } ∷ []) c in
    let q = offset + suc (length (raw_text (leading is_blank_cell (cells t)))) in
    same_stack (10 ∷ joined) (10 ∷ joined_text R)
    (fold_ends (offset + 1) (cells t) ++ record { after = length joined; raw_end = offset + 1 + n } ∷ []) (fold_ends q R ++ record { after = length R; raw_end = q } ∷ [])
    top.Lf (has_bad_fold (cells t)) (has_bad_fold R)
    (ap (λ z. 10 ∷ z) k)
    (x ∙ ends_at (offset + 1 + n) q R p)
    (sym (bad_fold-after_leading (cells t)))

-- a line feed before such cells, with the parts of the stack after it
pub line_feed-pushed : (offset : ℕ) (t : List ℕ) → (top_of (cells t) ≡ top.Fold → ⊥) → (n : ℕ) (cut joined : List ℕ) (ends : List FoldEnd) (bad : Bool)
    → n ≡ length (leading (λ b. is_blank_kind (byte_kind b)) t)
    → cut ≡ drop n (joined_text (cells t))
    → joined ≡ 10 ∷ cut
    → ends ≡ fold_ends (offset + 1) (cells t) ++ record { after = length cut; raw_end = offset + 1 + n } ∷ []
    → bad ≡ has_bad_fold (cells t)
    → ◌≡◌ {A = CellStack} (record { joined = joined; ends = ends; top = top.Lf; bad_fold = bad }) (stack_of offset (prepend LineFeed 10 (cells t)))
line_feed-pushed offset t h n cut joined ends bad m c j e b =
    same_stack joined (10 ∷ cut) ends (fold_ends (offset + 1) (cells t) ++ record { after = length cut; raw_end = offset + 1 + n } ∷ []) top.Lf bad (has_bad_fold (cells t)) j e b
    ∙ line_feed-blanks offset t h cut n m c

-- ---- a run of bytes that stand for themselves

-- before a byte that stands for itself, each byte except a line feed stands for itself
prepend-byte : (k : ByteKind) (b : ℕ) (cs : List Cell) → (k ≡ LineFeed → ⊥) → top_of cs ≡ top.Byte → prepend k b cs ≡ Byte b ∷ cs
prepend-byte LineFeed b cs h e = absurd (h refl)
prepend-byte k b (Fold r ∷ cs) h e = cc
prepend-byte k b (LfEnd r ∷ cs) h e = cc
prepend-byte k b (CrLfEnd r ∷ cs) h e = cc
prepend-byte CarriageReturn b [] h e = refl
prepend-byte CarriageReturn b (Byte c ∷ cs) h e = refl
prepend-byte Backslash b [] h e = refl
prepend-byte Backslash b (Byte c ∷ cs) h e = refl
prepend-byte Blank b [] h e = refl
prepend-byte Blank b (Byte c ∷ cs) h e = refl
prepend-byte Ordinary b [] h e = refl
prepend-byte Ordinary b (Byte c ∷ cs) h e = refl

top_of-run : (p : List ℕ) (cs : List Cell) → top_of cs ≡ top.Byte → top_of (map Byte p ++ cs) ≡ top.Byte
top_of-run [] cs e = e
top_of-run (b ∷ p) cs e = refl

cells-run : (p t : List ℕ) → All (λ b. b ≡ 10 → ⊥) p → top_of (cells t) ≡ top.Byte → cells (p ++ t) ≡ map Byte p ++ cells t
cells-run [] t h e = refl
cells-run (b ∷ p) t h e =
    ap (prepend (byte_kind b) b) (cells-run p t (All-tail (λ b. b ≡ 10 → ⊥) b p h) e)
    ∙ prepend-byte (byte_kind b) b (map Byte p ++ cells t) (λ k. All-head (λ b. b ≡ 10 → ⊥) b p h (line_feed-byte b k)) (top_of-run p (cells t) e)

bad_fold-run : (p : List ℕ) (cs : List Cell) → top_of cs ≡ top.Byte → has_bad_fold (map Byte p ++ cs) ≡ has_bad_fold cs
bad_fold-run [] cs e = refl
bad_fold-run (b ∷ p) cs e = go (is_backslash_kind (byte_kind b)) (map Byte p ++ cs) (top_of-run p cs e) (bad_fold-run p cs e)
  where
    go : (c : Bool) (ds : List Cell) → top_of ds ≡ top.Byte → has_bad_fold ds ≡ has_bad_fold cs → ((c && is_fold_first ds) || has_bad_fold ds) ≡ has_bad_fold cs
    go false ds f i = i
    go true [] f i = i
    go true (Byte d ∷ ds) f i = i
    go true (Fold r ∷ ds) f i = cc
    go true (LfEnd r ∷ ds) f i = i
    go true (CrLfEnd r ∷ ds) f i = i

-- the stack with a run of bytes on it
pub run-stacked : (text : List ℕ) (start offset : ℕ) → start < offset → offset ≤ length text → top_of (cells (drop offset text)) ≡ top.Byte
    → ((k : ℕ) → start ≤ k → k < offset → get_or text k 0 ≡ 10 → ⊥)
    → ◌≡◌ {A = CellStack} (record { joined = take (offset - start) (drop start text) ++ joined_text (cells (drop offset text)); ends = fold_ends offset (cells (drop offset text)); top = top.Byte; bad_fold = has_bad_fold (cells (drop offset text)) })
    (stack_of start (cells (drop start text)))
run-stacked text start offset some within first none =
    let n = offset - start in
    let p = take n (drop start text) in
    let t = drop offset text in
    let cs = cells t in
    let seam : drop n (drop start text) ≡ t = drop-drop n start text ∙ ap (λ k. drop k text) (omega arith) in
    let whole : drop start text ≡ p ++ t = sym (take-append-drop n (drop start text)) ∙ ap (λ z. p ++ z) seam in
    let long : length p ≡ n = length-take-le n (drop start text) (omega (arith, length-drop start text)) in
    let all : All (λ b. b ≡ 10 → ⊥) p =
    All-from_get_or (λ b. b ≡ 10 → ⊥) p 0 (λ k l e. none (start + k) (omega arith) (omega arith) (sym (get_or-take n (drop start text) k 0 (omega arith) ∙ get_or-drop start text k 0) ∙ e)) in
    let is : cells (drop start text) ≡ map Byte p ++ cs = ap cells whole ∙ cells-run p t all first in
    let joined : joined_text (map Byte p ++ cs) ≡ p ++ joined_text cs = joined_text-blanks p cs in
    let ends : fold_ends start (map Byte p ++ cs) ≡ fold_ends offset cs = fold_ends-blanks start p cs ∙ ap (λ z. fold_ends z cs) (omega (arith, long)) in
    subst (λ ds. ◌≡◌ {A = CellStack} (record { joined = p ++ joined_text cs; ends = fold_ends offset cs; top = top.Byte; bad_fold = has_bad_fold cs }) (stack_of start ds)) (sym is)
    (run_parts (p ++ joined_text cs) (fold_ends offset cs) (has_bad_fold cs) start (map Byte p ++ cs) (sym joined) (sym ends) (sym (top_of-run p cs first)) (sym (bad_fold-run p cs first)))
  where
    run_parts : (j : List ℕ) (e : List FoldEnd) (b : Bool) (start : ℕ) (ds : List Cell) → j ≡ joined_text ds → e ≡ fold_ends start ds → top.Byte ≡ top_of ds → b ≡ has_bad_fold ds
        → ◌≡◌ {A = CellStack} (record { joined = j; ends = e; top = top.Byte; bad_fold = b }) (stack_of start ds)
    run_parts j e b start ds p q r s = rw (p, q, sym r, s) refl
