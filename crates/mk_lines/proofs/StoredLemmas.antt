-- Lemmas on what is stored of the cells of a line.
use Rattle.std.proofs.Common.{◌≡◌, refl, sym, ap, ◌∙◌, subst, ℕ, zero, suc, ◌+◌, ◌-◌, ◌<◌, ◌≤◌, Bool, true, false, cond, List, [], ◌∷◌, ◌++◌, map, length, take, ◌^◌, length-append, zero-add, get_or, arith}
use Rattle.std.proofs.lemmas.List.{length-map}
use Rattle.std.specs.Prelude.{nat_lt, ◌==◌, ◌||◌, All}
use Rattle.std.specs.List.{list_any}
use Rattle.std.specs.List.Sorted.{IsNonDecreasingBy, IsPartitionPoint}
use Rattle.std.proofs.lemmas.List.Elements.{All-nil, All-cons, All-push, All-weaker, All-head, All-tail}
use Rattle.std.proofs.lemmas.List.Sorted.{IsNonDecreasingBy-short, IsNonDecreasingBy-push}
use Rattle.std.proofs.lemmas.Bool.Decides.{nat_tests}
use Rattle.mk_lines.specs.Bytes.{ByteKind, LineFeed, CarriageReturn, Backslash, Blank, Ordinary, byte_kind}
use Rattle.mk_lines.proofs.on_lists.ByteLemmas.{line_feed-byte}
use Rattle.mk_lines.specs.PhysicalLines.{without_line_end}
use Rattle.mk_lines.specs.Cells.{Cell, Byte, Fold, LfEnd, CrLfEnd, raw_text, raw_bytes, joined_byte, joined_text, prepend, cells, line_cells}
use Rattle.mk_lines.specs.CellFaults.{has_bad_fold, has_stray, is_stray, is_stray_by}
use Rattle.mk_lines.specs.Ranges.{raw_offset}
use Rattle.mk_lines.proofs.on_cells.CellLemmas.{AreCells, IsCell, cells-are_cells, raw_text-cells}
use Rattle.mk_lines.specs.StoredCells.{StoredCells, AreCellsOf, AreInOrder, fold_ends, stored_cells, stored_text, stored_offset, offset_by_ends}
use Rattle.mk_lines.specs.declared.cells.stored.FoldEnd.{FoldEnd}
use Rattle.mk_lines.proofs.on_cells.LineCells.{bytes-no_bad_fold}

-- ---- raw offsets

offset_by_ends-append : (es fs : List FoldEnd) (after offset : ℕ) → offset_by_ends (es ++ fs) after offset ≡ offset_by_ends es after (offset_by_ends fs after offset)
offset_by_ends-append [] fs after offset = refl
offset_by_ends-append (e ∷ es) fs after offset = ap (λ z. cond (nat_lt e.after after) z (e.raw_end + (e.after - after))) (offset_by_ends-append es fs after offset)

-- a raw offset by one fold's end
one_end : (end after offset : ℕ) (many : ℕ) → many < after → offset_by_ends (record { after = many; raw_end = end } ∷ []) after offset ≡ offset
one_end end after offset many h = grind (arith, nat_tests)

one_end_before : (end after offset : ℕ) (many : ℕ) → after ≤ many → offset_by_ends (record { after = many; raw_end = end } ∷ []) after offset ≡ end + (many - after)
one_end_before end after offset many h = grind (arith, nat_tests)

-- no fold ends before the first cell
one_more_first : (end : ℕ) (cs : List Cell) (after offset : ℕ) → suc (length cs) ≤ after → offset_by_ends (fold_ends end cs) after offset ≡ offset
    → offset_by_ends (fold_ends end cs ++ record { after = length cs; raw_end = end } ∷ []) after offset ≡ offset
one_more_first end cs after offset h i =
    offset_by_ends-append (fold_ends end cs) (record { after = length cs; raw_end = end } ∷ []) after offset
    ∙ (ap (offset_by_ends (fold_ends end cs) after) (one_end end after offset (length cs) (omega arith)) ∙ i)

before_first : (at : ℕ) (cs : List Cell) (after offset : ℕ) → length cs ≤ after → offset_by_ends (fold_ends at cs) after offset ≡ offset
before_first at [] after offset h = refl
before_first at (Byte b ∷ cs) after offset h = before_first (at + 1) cs after offset (omega arith)
before_first at (Fold r ∷ cs) after offset h = one_more_first (at + length r) cs after offset h (before_first (at + length r) cs after offset (omega arith))
before_first at (LfEnd r ∷ cs) after offset h = one_more_first (at + length r) cs after offset h (before_first (at + length r) cs after offset (omega arith))
before_first at (CrLfEnd r ∷ cs) after offset h = one_more_first (at + length r) cs after offset h (before_first (at + length r) cs after offset (omega arith))

-- an offset behind the first cell, if that is no byte
behind_fold : (at : ℕ) (r : List ℕ) (cs : List Cell) (n : ℕ) → n ≤ length cs → offset_by_ends (fold_ends (at + length r) cs) (length cs - n) (at + length r + n) ≡ at + length r + raw_offset cs n
    → offset_by_ends (fold_ends (at + length r) cs ++ record { after = length cs; raw_end = at + length r } ∷ []) (suc (length cs) - suc n) (at + suc n) ≡ at + length (r ++ raw_text (take n cs))
behind_fold at r cs n h i =
    let a : suc (length cs) - suc n ≡ length cs - n = omega arith in
    let e : offset_by_ends (record { after = length cs; raw_end = at + length r } ∷ []) (length cs - n) (at + suc n) ≡ at + length r + n =
    one_end_before (at + length r) (length cs - n) (at + suc n) (length cs) (omega arith) ∙ omega arith in
    let l : at + length r + raw_offset cs n ≡ at + length (r ++ raw_text (take n cs)) = omega (arith, length-append r (raw_text (take n cs))) in
    ap (λ z. offset_by_ends (fold_ends (at + length r) cs ++ record { after = length cs; raw_end = at + length r } ∷ []) z (at + suc n)) a
    ∙ (offset_by_ends-append (fold_ends (at + length r) cs) (record { after = length cs; raw_end = at + length r } ∷ []) (length cs - n) (at + suc n)
    ∙ (ap (offset_by_ends (fold_ends (at + length r) cs) (length cs - n)) e ∙ (i ∙ l)))

-- The folds' ends give the raw offsets. The first of the cells begins at `at`.
offset_by_fold_ends : (at : ℕ) (cs : List Cell) (n : ℕ) → n ≤ length cs → offset_by_ends (fold_ends at cs) (length cs - n) (at + n) ≡ at + raw_offset cs n
offset_by_fold_ends at [] zero h = refl
offset_by_fold_ends at [] (suc n) h = absurd (omega arith)
offset_by_fold_ends at (c ∷ cs) zero h = before_first at (c ∷ cs) (length (c ∷ cs) - 0) (at + 0) (omega arith)
offset_by_fold_ends at (Byte b ∷ cs) (suc n) h =
    let i : offset_by_ends (fold_ends (at + 1) cs) (length cs - n) (at + 1 + n) ≡ at + 1 + raw_offset cs n = offset_by_fold_ends (at + 1) cs n (omega arith) in
    let a : length (Byte b ∷ cs) - suc n ≡ length cs - n = omega arith in
    let p : at + suc n ≡ at + 1 + n = omega arith in
    let l : at + 1 + raw_offset cs n ≡ at + suc (raw_offset cs n) = omega arith in
    ap (λ z. offset_by_ends (fold_ends (at + 1) cs) z (at + suc n)) a
    ∙ (ap (offset_by_ends (fold_ends (at + 1) cs) (length cs - n)) p ∙ (i ∙ l))
offset_by_fold_ends at (Fold r ∷ cs) (suc n) h = behind_fold at r cs n (omega arith) (offset_by_fold_ends (at + length r) cs n (omega arith))
offset_by_fold_ends at (LfEnd r ∷ cs) (suc n) h = behind_fold at r cs n (omega arith) (offset_by_fold_ends (at + length r) cs n (omega arith))
offset_by_fold_ends at (CrLfEnd r ∷ cs) (suc n) h = behind_fold at r cs n (omega arith) (offset_by_fold_ends (at + length r) cs n (omega arith))

-- ---- the folds' ends stand in order

-- a fold's end has fewer joined bytes after it than there are cells
below_push : (end : ℕ) (cs : List Cell) → All (λ e. e.after < length cs) (fold_ends end cs) → All (λ e. e.after < suc (length cs)) (fold_ends end cs ++ record { after = length cs; raw_end = end } ∷ [])
below_push end cs h =
    All-push (λ e. e.after < suc (length cs)) (fold_ends end cs) (record { after = length cs; raw_end = end })
    (All-weaker (λ e. e.after < length cs) (λ e. e.after < suc (length cs)) (λ e k. omega arith) (fold_ends end cs) h) (omega arith)

ends_below : (at : ℕ) (cs : List Cell) → All (λ e. e.after < length cs) (fold_ends at cs)
ends_below at [] = All-nil (λ e. e.after < 0)
ends_below at (Byte b ∷ cs) = All-weaker (λ e. e.after < length cs) (λ e. e.after < suc (length cs)) (λ e h. omega arith) (fold_ends (at + 1) cs) (ends_below (at + 1) cs)
ends_below at (Fold r ∷ cs) = below_push (at + length r) cs (ends_below (at + length r) cs)
ends_below at (LfEnd r ∷ cs) = below_push (at + length r) cs (ends_below (at + length r) cs)
ends_below at (CrLfEnd r ∷ cs) = below_push (at + length r) cs (ends_below (at + length r) cs)

rising_push : (end : ℕ) (cs : List Cell) → IsNonDecreasingBy (λ e. e.after) (fold_ends end cs) → IsNonDecreasingBy (λ e. e.after) (fold_ends end cs ++ record { after = length cs; raw_end = end } ∷ [])
rising_push end cs h =
    let below : All (λ e. e.after < length cs) (fold_ends end cs) = ends_below end cs in
    IsNonDecreasingBy-push (λ e. e.after) (fold_ends end cs) (record { after = length cs; raw_end = end }) h
    (λ d k. let l : length (fold_ends end cs) - 1 < length (fold_ends end cs) = omega arith in let m = below (length (fold_ends end cs) - 1) d l in omega (arith, m))

ends_rise : (at : ℕ) (cs : List Cell) → IsNonDecreasingBy (λ e. e.after) (fold_ends at cs)
ends_rise at [] = IsNonDecreasingBy-short (λ e. e.after) [] (omega arith)
ends_rise at (Byte b ∷ cs) = ends_rise (at + 1) cs
ends_rise at (Fold r ∷ cs) = rising_push (at + length r) cs (ends_rise (at + length r) cs)
ends_rise at (LfEnd r ∷ cs) = rising_push (at + length r) cs (ends_rise (at + length r) cs)
ends_rise at (CrLfEnd r ∷ cs) = rising_push (at + length r) cs (ends_rise (at + length r) cs)

-- ---- cells have raw bytes

filled : (c : Cell) → IsCell c → 0 < length (raw_bytes c)
filled (Byte b) h = omega arith
filled (Fold []) h = absurd (let g : [] ≡ Fold [] ∷ [] = h in cc)
filled (Fold (b ∷ r)) h = omega arith
filled (LfEnd []) h = absurd (let g : [] ≡ LfEnd [] ∷ [] = h in cc)
filled (LfEnd (b ∷ r)) h = omega arith
filled (CrLfEnd []) h = absurd (let g : [] ≡ CrLfEnd [] ∷ [] = h in cc)
filled (CrLfEnd (b ∷ r)) h = omega arith

-- there are no more cells than raw bytes
pub length-raw_text : (cs : List Cell) → AreCells cs → length cs ≤ length (raw_text cs)
length-raw_text [] h = omega arith
length-raw_text (c ∷ cs) h = omega (arith, filled c h.0, length-raw_text cs h.2, length-append (raw_bytes c) (raw_text cs))

within_push : (at : ℕ) (r : List ℕ) (cs : List Cell) (limit : ℕ) → at + length (r ++ raw_text cs) ≤ limit → length cs ≤ length (raw_text cs)
    → All (λ e. e.raw_end + e.after ≤ limit) (fold_ends (at + length r) cs) → All (λ e. e.raw_end + e.after ≤ limit) (fold_ends (at + length r) cs ++ record { after = length cs; raw_end = at + length r } ∷ [])
within_push at r cs limit h k i =
    All-push (λ e. e.raw_end + e.after ≤ limit) (fold_ends (at + length r) cs) (record { after = length cs; raw_end = at + length r }) i (omega (arith, length-append r (raw_text cs)))

-- the numbers of the folds' ends lie within the raw bytes
ends_within : (at : ℕ) (cs : List Cell) (limit : ℕ) → AreCells cs → at + length (raw_text cs) ≤ limit → All (λ e. e.raw_end + e.after ≤ limit) (fold_ends at cs)
ends_within at [] limit f h = All-nil (λ e. e.raw_end + e.after ≤ limit)
ends_within at (Byte b ∷ cs) limit f h = ends_within (at + 1) cs limit f.2 (omega arith)
ends_within at (Fold r ∷ cs) limit f h = within_push at r cs limit h (length-raw_text cs f.2) (ends_within (at + length r) cs limit f.2 (omega (arith, length-append r (raw_text cs))))
ends_within at (LfEnd r ∷ cs) limit f h = within_push at r cs limit h (length-raw_text cs f.2) (ends_within (at + length r) cs limit f.2 (omega (arith, length-append r (raw_text cs))))
ends_within at (CrLfEnd r ∷ cs) limit f h = within_push at r cs limit h (length-raw_text cs f.2) (ends_within (at + length r) cs limit f.2 (omega (arith, length-append r (raw_text cs))))

-- ---- cells without folds

snoc-not_empty : {A : Type 0} (xs : List A) (x : A) → xs ++ x ∷ [] ≡ [] → ⊥
snoc-not_empty [] x h = cc
snoc-not_empty (y ∷ xs) x h = cc

-- the joined text of cells without folds is their raw text
joined_text-no_ends : (at : ℕ) (cs : List Cell) → fold_ends at cs ≡ [] → joined_text cs ≡ raw_text cs
joined_text-no_ends at [] h = refl
joined_text-no_ends at (Byte b ∷ cs) h = ap (λ z. b ∷ z) (joined_text-no_ends (at + 1) cs h)
joined_text-no_ends at (Fold r ∷ cs) h = absurd (snoc-not_empty (fold_ends (at + length r) cs) (record { after = length cs; raw_end = at + length r }) h)
joined_text-no_ends at (LfEnd r ∷ cs) h = absurd (snoc-not_empty (fold_ends (at + length r) cs) (record { after = length cs; raw_end = at + length r }) h)
joined_text-no_ends at (CrLfEnd r ∷ cs) h = absurd (snoc-not_empty (fold_ends (at + length r) cs) (record { after = length cs; raw_end = at + length r }) h)

not_ten : (b : ℕ) → (byte_kind b ≡ LineFeed → ⊥) → b ≡ 10 → ⊥
not_ten b h e = h (ap byte_kind e)

-- the raw bytes of cells without folds have no line feed
no_ends-no_line_feed : (at : ℕ) (cs : List Cell) → AreCells cs → fold_ends at cs ≡ [] → All (λ b. b ≡ 10 → ⊥) (raw_text cs)
no_ends-no_line_feed at [] f h = All-nil (λ b. b ≡ 10 → ⊥)
no_ends-no_line_feed at (Byte b ∷ cs) f h = All-cons (λ b. b ≡ 10 → ⊥) b (raw_text cs) (not_ten b f.0) (no_ends-no_line_feed (at + 1) cs f.2 h)
no_ends-no_line_feed at (Fold r ∷ cs) f h = absurd (snoc-not_empty (fold_ends (at + length r) cs) (record { after = length cs; raw_end = at + length r }) h)
no_ends-no_line_feed at (LfEnd r ∷ cs) f h = absurd (snoc-not_empty (fold_ends (at + length r) cs) (record { after = length cs; raw_end = at + length r }) h)
no_ends-no_line_feed at (CrLfEnd r ∷ cs) f h = absurd (snoc-not_empty (fold_ends (at + length r) cs) (record { after = length cs; raw_end = at + length r }) h)

-- each byte of a text without a line feed stands for itself
prepend-bytes : (k : ByteKind) (b : ℕ) (t : List ℕ) → (k ≡ LineFeed → ⊥) → prepend k b (map Byte t) ≡ Byte b ∷ map Byte t
prepend-bytes LineFeed b t h = absurd (h refl)
prepend-bytes CarriageReturn b [] h = refl
prepend-bytes CarriageReturn b (x ∷ t) h = refl
prepend-bytes Backslash b [] h = refl
prepend-bytes Backslash b (x ∷ t) h = refl
prepend-bytes Blank b [] h = refl
prepend-bytes Blank b (x ∷ t) h = refl
prepend-bytes Ordinary b t h = refl

cells-no_line_feed : (t : List ℕ) → All (λ b. b ≡ 10 → ⊥) t → cells t ≡ map Byte t
cells-no_line_feed [] h = refl
cells-no_line_feed (b ∷ t) h =
    ap (prepend (byte_kind b) b) (cells-no_line_feed t (All-tail (λ b. b ≡ 10 → ⊥) b t h))
    ∙ prepend-bytes (byte_kind b) b t (λ e. All-head (λ b. b ≡ 10 → ⊥) b t h (line_feed-byte b e))

fold_ends-bytes : (at : ℕ) (t : List ℕ) → fold_ends at (map Byte t) ≡ []
fold_ends-bytes at [] = refl
fold_ends-bytes at (b ∷ t) = fold_ends-bytes (at + 1) t

-- ---- stray bytes

-- whether cells have a stray byte is told by their joined text
has_stray-joined_text : (cs : List Cell) → has_stray cs ≡ list_any (λ b. is_stray_by (byte_kind b) (b == 0)) (joined_text cs)
has_stray-joined_text [] = refl
has_stray-joined_text (c ∷ cs) = ap (λ z. is_stray c || z) (has_stray-joined_text cs)

-- ---- the readers

stored_text-some : (es : List FoldEnd) (cs : List Cell) → (es ≡ [] → ⊥) → stored_text es cs ≡ joined_text cs
stored_text-some [] cs h = absurd (h refl)
stored_text-some (e ∷ es) cs h = refl

-- without folds the joined text is the line's own text
pub plain-text : (stored : StoredCells) (line : List ℕ) → AreCellsOf stored line → [] ≡ stored.ends → without_line_end line ≡ joined_text (line_cells line)
plain-text stored line h e =
    let none : fold_ends 0 (line_cells line) ≡ [] = sym (e ∙ ap (λ k. k.ends) h.same) in
    sym (joined_text-no_ends 0 (line_cells line) none ∙ raw_text-cells (without_line_end line))

pub plain-count : (stored : StoredCells) (line : List ℕ) → AreCellsOf stored line → [] ≡ stored.ends → length (without_line_end line) ≡ stored.count
plain-count stored line h e = ap length (plain-text stored line h e) ∙ (length-map (line_cells line) joined_byte ∙ sym (ap (λ k. k.count) h.same))

-- with folds the joined text is the text that is stored
pub folded-text : (stored : StoredCells) (line : List ℕ) → AreCellsOf stored line → (stored.ends ≡ [] → ⊥) → stored.joined ≡ joined_text (line_cells line)
folded-text stored line h some =
    ap (λ k. k.joined) h.same ∙ stored_text-some (fold_ends 0 (line_cells line)) (line_cells line) (λ none. some (ap (λ k. k.ends) h.same ∙ none))

pub folded-count : (stored : StoredCells) (line : List ℕ) → AreCellsOf stored line → (stored.ends ≡ [] → ⊥) → length stored.joined ≡ stored.count
folded-count stored line h some = ap length (folded-text stored line h some) ∙ (length-map (line_cells line) joined_byte ∙ sym (ap (λ k. k.count) h.same))

-- the raw offsets of a line by what is stored
pub stored_offset-raw_offset : (stored : StoredCells) (line : List ℕ) (n : ℕ) → AreCellsOf stored line → n ≤ stored.count → stored_offset stored n ≡ raw_offset (line_cells line) n
stored_offset-raw_offset stored line n h k =
    let cs = line_cells line in
    let c : stored.count ≡ length cs = ap (λ z. z.count) h.same in
    let l : n ≤ length cs = omega arith in
    ap (λ z. stored_offset z n) h.same
    ∙ (ap (offset_by_ends (fold_ends 0 cs) (length cs - n)) (sym (zero-add n)) ∙ (offset_by_fold_ends 0 cs n l ∙ zero-add (raw_offset cs n)))

-- the raw offset that a search of the folds' ends finds
pub offset_by_ends-found : (es : List FoldEnd) (after offset i : ℕ) → IsPartitionPoint (λ e. nat_lt e.after after ≡ true) (λ e. nat_lt e.after after ≡ false) es i
    → (e : FoldEnd) → i < length es → e ≡ get_or es i e → e.raw_end + (e.after - after) ≡ offset_by_ends es after offset
offset_by_ends-found [] after offset i h e l k = absurd (omega arith)
offset_by_ends-found (f ∷ es) after offset zero h e l k =
    let n : nat_lt f.after after ≡ false = h.1 0 f (omega arith) (omega arith) in rw (n, k) refl
offset_by_ends-found (f ∷ es) after offset (suc i) h e l k =
    let n : nat_lt f.after after ≡ true = h.0 0 f (omega arith) (omega arith) in
    rw n
    (offset_by_ends-found es after offset i ((λ k d a b. h.0 (suc k) d (omega arith) (omega arith)), (λ k d a b. h.1 (suc k) d (omega arith) (omega arith))) e (omega arith) k)

pub offset_by_ends-none : (es : List FoldEnd) (after offset i : ℕ) → IsPartitionPoint (λ e. nat_lt e.after after ≡ true) (λ e. nat_lt e.after after ≡ false) es i
    → length es ≤ i → offset ≡ offset_by_ends es after offset
offset_by_ends-none [] after offset i h l = refl
offset_by_ends-none (f ∷ es) after offset zero h l = absurd (omega arith)
offset_by_ends-none (f ∷ es) after offset (suc i) h l =
    let n : nat_lt f.after after ≡ true = h.0 0 f (omega arith) (omega arith) in
    rw n
    (offset_by_ends-none es after offset i ((λ k d a b. h.0 (suc k) d (omega arith) (omega arith)), (λ k d a b. h.1 (suc k) d (omega arith) (omega arith))) (omega arith))

-- ---- what `cells` makes

stored_same : (m n : ℕ) (j k : List ℕ) (d e : List FoldEnd) (a b x y : Bool) → m ≡ n → j ≡ k → d ≡ e → a ≡ b → x ≡ y
    → ◌≡◌ {A = StoredCells} (record { count = m; joined = j; ends = d; bad_fold = a; stray = x }) (record { count = n; joined = k; ends = e; bad_fold = b; stray = y })
stored_same m n j k d e a b x y p q r s t = rw (p, q, r, s, t) refl

joined_text-bytes : (t : List ℕ) → joined_text (map Byte t) ≡ t
joined_text-bytes [] = refl
joined_text-bytes (b ∷ t) = ap (λ z. b ∷ z) (joined_text-bytes t)

stored_text-none : (es : List FoldEnd) (cs : List Cell) → es ≡ [] → stored_text es cs ≡ []
stored_text-none [] cs h = refl
stored_text-none (e ∷ es) cs h = cc

-- what is stored of a text without a line feed
pub plain_stored : (t : List ℕ) → All (λ b. b ≡ 10 → ⊥) t → (j : List ℕ) (e : List FoldEnd) (s : Bool) → j ≡ [] → e ≡ [] → s ≡ list_any (λ b. is_stray_by (byte_kind b) (b == 0)) t
    → ◌≡◌ {A = StoredCells} (record { count = length t; joined = j; ends = e; bad_fold = false; stray = s }) (stored_cells (cells t))
plain_stored t h j e s p q r =
    let c : cells t ≡ map Byte t = cells-no_line_feed t h in
    let f : fold_ends 0 (map Byte t) ≡ [] = fold_ends-bytes 0 t in
    ap (λ z. record { count = length t; joined = j; ends = e; bad_fold = false; stray = z }) r
    ∙ (stored_same (length t) (length (map Byte t)) j (stored_text (fold_ends 0 (map Byte t)) (map Byte t)) e (fold_ends 0 (map Byte t)) false (has_bad_fold (map Byte t))
    (list_any (λ b. is_stray_by (byte_kind b) (b == 0)) t) (has_stray (map Byte t))
    (sym (length-map t Byte)) (p ∙ sym (stored_text-none (fold_ends 0 (map Byte t)) (map Byte t) f)) (q ∙ sym f) (sym (bytes-no_bad_fold t))
    (ap (list_any (λ b. is_stray_by (byte_kind b) (b == 0))) (sym (joined_text-bytes t)) ∙ sym (has_stray-joined_text (map Byte t)))
    ∙ ap stored_cells (sym c))

-- a text with a line feed has the end of a fold
pub fold_ends-some : (t : List ℕ) → (All (λ b. b ≡ 10 → ⊥) t → ⊥) → fold_ends 0 (cells t) ≡ [] → ⊥
fold_ends-some t h none = h (subst (All (λ b. b ≡ 10 → ⊥)) (raw_text-cells t) (no_ends-no_line_feed 0 (cells t) (cells-are_cells t) none))

-- a line has folds where there is a line feed in it, and only there
pub no_ends-plain : (stored : StoredCells) (line : List ℕ) → AreCellsOf stored line → [] ≡ stored.ends → All (λ b. b ≡ 10 → ⊥) (without_line_end line)
no_ends-plain stored line h e =
    let t = without_line_end line in
    let none : fold_ends 0 (cells t) ≡ [] = sym (e ∙ ap (λ k. k.ends) h.same) in
    subst (All (λ b. b ≡ 10 → ⊥)) (raw_text-cells t) (no_ends-no_line_feed 0 (cells t) (cells-are_cells t) none)

pub plain-no_ends : (stored : StoredCells) (line : List ℕ) → AreCellsOf stored line → All (λ b. b ≡ 10 → ⊥) (without_line_end line) → stored.ends ≡ []
plain-no_ends stored line h all =
    let t = without_line_end line in
    ap (λ k. k.ends) h.same ∙ (ap (fold_ends 0) (cells-no_line_feed t all) ∙ fold_ends-bytes 0 t)

-- whether a text without a line feed has a stray byte, by its cells
pub plain-stray : (t : List ℕ) → All (λ b. b ≡ 10 → ⊥) t → has_stray (cells t) ≡ list_any (λ b. is_stray_by (byte_kind b) (b == 0)) t
plain-stray t h =
    ap has_stray (cells-no_line_feed t h)
    ∙ (has_stray-joined_text (map Byte t) ∙ ap (list_any (λ b. is_stray_by (byte_kind b) (b == 0))) (joined_text-bytes t))

-- what is stored of a text with a line feed
pub folded_stored : (t : List ℕ) → (All (λ b. b ≡ 10 → ⊥) t → ⊥) → (n : ℕ) (j : List ℕ) (e : List FoldEnd) (b s : Bool)
    → n ≡ length j → j ≡ joined_text (cells t) → e ≡ fold_ends 0 (cells t) → b ≡ has_bad_fold (cells t) → s ≡ list_any (λ b. is_stray_by (byte_kind b) (b == 0)) j
    → ◌≡◌ {A = StoredCells} (record { count = n; joined = j; ends = e; bad_fold = b; stray = s }) (stored_cells (cells t))
folded_stored t h n j e b s p k r u v =
    stored_same n (length (cells t)) j (stored_text (fold_ends 0 (cells t)) (cells t)) e (fold_ends 0 (cells t)) b (has_bad_fold (cells t)) s (has_stray (cells t))
    (p ∙ (ap length k ∙ length-map (cells t) joined_byte)) (k ∙ sym (stored_text-some (fold_ends 0 (cells t)) (cells t) (fold_ends-some t h))) r u
    (v ∙ (ap (list_any (λ b. is_stray_by (byte_kind b) (b == 0))) k ∙ sym (has_stray-joined_text (cells t))))

-- the folds' ends of a text whose length is a number of the machine
pub text_in_order : (t : List ℕ) (e : List FoldEnd) → length t < 2 ^ 64 → e ≡ fold_ends 0 (cells t) → AreInOrder e
text_in_order t e h p =
    let r : 0 + length (raw_text (cells t)) ≤ length t = omega (arith, ap length (raw_text-cells t)) in
    let w : All (λ e. e.raw_end + e.after ≤ length t) (fold_ends 0 (cells t)) = ends_within 0 (cells t) (length t) (cells-are_cells t) r in
    subst AreInOrder (sym p) (record {
      rising = ends_rise 0 (cells t);
      within = All-weaker (λ e. e.raw_end + e.after ≤ length t) (λ e. e.raw_end + e.after < 2 ^ 64) (λ e k. omega arith) (fold_ends 0 (cells t)) w;
    })
