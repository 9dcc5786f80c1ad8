-- A space put after a text that is the front of a line: it stands for itself, unless it follows a fold directly, which then takes
-- it in.
use Rattle.std.proofs.Common.{◌≡◌, refl, sym, ap, ◌∙◌, subst, ℕ, List, [], ◌∷◌, ◌++◌, map, Bool, true, false, ◌&&◌, cond, if◌then◌else◌, append_assoc}
use Rattle.std.proofs.lemmas.List.{append-nil}
use Rattle.std.proofs.lemmas.Bool.{or_from}
use Rattle.std.proofs.Math.Bool.{and-false}
use Rattle.mk_lines.specs.Lists.{leading, after_leading}
use Rattle.mk_lines.specs.Bytes.{ByteKind, byte_kind, LineFeed, CarriageReturn, Backslash, Blank, Ordinary}
use Rattle.mk_lines.specs.Cells.{Cell, Byte, Fold, LfEnd, CrLfEnd, joined_byte, is_blank_cell, raw_bytes, raw_text, prepend, cells, NoLineEnds}
use Rattle.mk_lines.specs.CellFaults.{is_fold, has_stray, is_stray, has_bad_fold, is_fold_first, is_backslash_cell}
use Rattle.mk_lines.proofs.on_cells.LineCells.{AreLineCells, AreLineCells-cells, cells-are_line_cells}
use Rattle.mk_lines.proofs.on_cells.LineOfCells.{IsClean}
use Rattle.mk_lines.proofs.on_lists.BoolLemmas.{or-left_false, or-right_false}
use Rattle.mk_class.specs.ListTests.{last_passes}

-- cells with a space after them
abbrev pub add_blank : List Cell → List Cell
add_blank [] = Byte 32 ∷ []
add_blank (Byte b ∷ []) = Byte b ∷ Byte 32 ∷ []
add_blank (Fold r ∷ []) = Fold (r ++ 32 ∷ []) ∷ []
add_blank (LfEnd r ∷ []) = LfEnd (r ++ 32 ∷ []) ∷ []
add_blank (CrLfEnd r ∷ []) = CrLfEnd (r ++ 32 ∷ []) ∷ []
add_blank (c ∷ d ∷ cs) = c ∷ add_blank (d ∷ cs)

-- the raw bytes of cells with a blank added have a space after them
pub raw_text-add_blank : (cs : List Cell) → raw_text (add_blank cs) ≡ raw_text cs ++ 32 ∷ []
raw_text-add_blank [] = refl
raw_text-add_blank (Byte b ∷ []) = refl
raw_text-add_blank (Fold r ∷ []) = rw (append-nil (r ++ 32 ∷ []), append-nil r) refl
raw_text-add_blank (LfEnd r ∷ []) = rw (append-nil (r ++ 32 ∷ []), append-nil r) refl
raw_text-add_blank (CrLfEnd r ∷ []) = rw (append-nil (r ++ 32 ∷ []), append-nil r) refl
raw_text-add_blank (c ∷ d ∷ cs) =
    ap (λ z. raw_bytes c ++ z) (raw_text-add_blank (d ∷ cs)) ∙ sym (append_assoc (raw_bytes c) (raw_text (d ∷ cs)) (32 ∷ []))

-- what stands before some cells
pub add_blank-append : (a : List Cell) (c : Cell) (b : List Cell) → add_blank (a ++ c ∷ b) ≡ a ++ add_blank (c ∷ b)
add_blank-append [] c b = refl
add_blank-append (x ∷ []) c b = refl
add_blank-append (x ∷ y ∷ a) c b = ap (λ z. x ∷ z) (add_blank-append (y ∷ a) c b)

-- ---- the cells of a text with a space after it

-- a line feed before blanks takes them all in, before others those at their front
line_feed-add_blank : (b : ℕ) (r : List ℕ) (cs : List Cell)
    → LfEnd (b ∷ (r ++ raw_text (leading is_blank_cell (add_blank cs)))) ∷ after_leading is_blank_cell (add_blank cs)
    ≡ add_blank (LfEnd (b ∷ (r ++ raw_text (leading is_blank_cell cs))) ∷ after_leading is_blank_cell cs)
line_feed-add_blank b r [] = rw (append-nil r) refl
line_feed-add_blank b r (Byte x ∷ []) = go (is_blank_cell (Byte x))
  where
    go : (t : Bool)
        → LfEnd (b ∷ (r ++ raw_text (cond t (Byte x ∷ Byte 32 ∷ []) []))) ∷ cond t [] (Byte x ∷ Byte 32 ∷ [])
        ≡ add_blank (LfEnd (b ∷ (r ++ raw_text (cond t (Byte x ∷ []) []))) ∷ cond t [] (Byte x ∷ []))
    go true = ap (λ z. LfEnd (b ∷ z) ∷ []) (sym (append_assoc r (x ∷ []) (32 ∷ [])))
    go false = refl
line_feed-add_blank b r (Fold x ∷ []) =
    ap (λ z. LfEnd (b ∷ z) ∷ []) (ap (λ z. r ++ z) (append-nil (x ++ 32 ∷ [])) ∙ (sym (append_assoc r x (32 ∷ [])) ∙ ap (λ z. (r ++ z) ++ 32 ∷ []) (sym (append-nil x))))
line_feed-add_blank b r (LfEnd x ∷ []) = refl
line_feed-add_blank b r (CrLfEnd x ∷ []) = refl
line_feed-add_blank b r (c ∷ d ∷ cs) = go (is_blank_cell c) (line_feed-add_blank b (r ++ raw_bytes c) (d ∷ cs))
  where
    go : (t : Bool)
        → LfEnd (b ∷ ((r ++ raw_bytes c) ++ raw_text (leading is_blank_cell (add_blank (d ∷ cs))))) ∷ after_leading is_blank_cell (add_blank (d ∷ cs))
        ≡ add_blank (LfEnd (b ∷ ((r ++ raw_bytes c) ++ raw_text (leading is_blank_cell (d ∷ cs)))) ∷ after_leading is_blank_cell (d ∷ cs))
        → LfEnd (b ∷ (r ++ raw_text (cond t (c ∷ leading is_blank_cell (add_blank (d ∷ cs))) []))) ∷ cond t (after_leading is_blank_cell (add_blank (d ∷ cs))) (c ∷ add_blank (d ∷ cs))
        ≡ add_blank (LfEnd (b ∷ (r ++ raw_text (cond t (c ∷ leading is_blank_cell (d ∷ cs)) []))) ∷ cond t (after_leading is_blank_cell (d ∷ cs)) (c ∷ d ∷ cs))
    go true ih =
        let s : (z : List Cell) → r ++ (raw_bytes c ++ raw_text z) ≡ (r ++ raw_bytes c) ++ raw_text z = λ z. sym (append_assoc r (raw_bytes c) (raw_text z)) in
        ap (λ z. LfEnd (b ∷ z) ∷ after_leading is_blank_cell (add_blank (d ∷ cs))) (s (leading is_blank_cell (add_blank (d ∷ cs))))
        ∙ (ih ∙ ap (λ z. add_blank (LfEnd (b ∷ z) ∷ after_leading is_blank_cell (d ∷ cs))) (sym (s (leading is_blank_cell (d ∷ cs)))))
    go false ih = refl

-- a byte before cells with a space after them
prepend-add_blank : (k : ByteKind) (b : ℕ) (cs : List Cell) → prepend k b (add_blank cs) ≡ add_blank (prepend k b cs)
prepend-add_blank LineFeed b cs = line_feed-add_blank b [] cs
prepend-add_blank CarriageReturn b [] = refl
prepend-add_blank CarriageReturn b (Byte x ∷ []) = refl
prepend-add_blank CarriageReturn b (Fold r ∷ []) = refl
prepend-add_blank CarriageReturn b (LfEnd r ∷ []) = refl
prepend-add_blank CarriageReturn b (CrLfEnd r ∷ []) = refl
prepend-add_blank CarriageReturn b (Byte x ∷ d ∷ cs) = refl
prepend-add_blank CarriageReturn b (Fold r ∷ d ∷ cs) = refl
prepend-add_blank CarriageReturn b (LfEnd r ∷ d ∷ cs) = refl
prepend-add_blank CarriageReturn b (CrLfEnd r ∷ d ∷ cs) = refl
prepend-add_blank Backslash b [] = refl
prepend-add_blank Backslash b (Byte x ∷ []) = refl
prepend-add_blank Backslash b (Fold r ∷ []) = refl
prepend-add_blank Backslash b (LfEnd r ∷ []) = refl
prepend-add_blank Backslash b (CrLfEnd r ∷ []) = refl
prepend-add_blank Backslash b (Byte x ∷ d ∷ cs) = refl
prepend-add_blank Backslash b (Fold r ∷ d ∷ cs) = refl
prepend-add_blank Backslash b (LfEnd r ∷ d ∷ cs) = refl
prepend-add_blank Backslash b (CrLfEnd r ∷ d ∷ cs) = refl
prepend-add_blank Blank b [] = refl
prepend-add_blank Blank b (Byte x ∷ []) = refl
prepend-add_blank Blank b (Fold r ∷ []) = refl
prepend-add_blank Blank b (LfEnd r ∷ []) = refl
prepend-add_blank Blank b (CrLfEnd r ∷ []) = refl
prepend-add_blank Blank b (Byte x ∷ d ∷ cs) = refl
prepend-add_blank Blank b (Fold r ∷ d ∷ cs) = refl
prepend-add_blank Blank b (LfEnd r ∷ d ∷ cs) = refl
prepend-add_blank Blank b (CrLfEnd r ∷ d ∷ cs) = refl
prepend-add_blank Ordinary b [] = refl
prepend-add_blank Ordinary b (c ∷ cs) = refl

-- the cells of a text with a space after it are its own with the space
cells-add_blank : (t : List ℕ) → cells (t ++ 32 ∷ []) ≡ add_blank (cells t)
cells-add_blank [] = refl
cells-add_blank (b ∷ t) = ap (λ z. prepend (byte_kind b) b z) (cells-add_blank t) ∙ prepend-add_blank (byte_kind b) b (cells t)

-- ---- cells of a line

no_line_ends-add_blank : (cs : List Cell) → NoLineEnds cs → NoLineEnds (add_blank cs)
no_line_ends-add_blank [] h = (refl, tt)
no_line_ends-add_blank (Byte b ∷ []) h = (refl, (refl, tt))
no_line_ends-add_blank (Fold r ∷ []) h = (refl, tt)
no_line_ends-add_blank (LfEnd r ∷ []) h = cc
no_line_ends-add_blank (CrLfEnd r ∷ []) h = cc
no_line_ends-add_blank (c ∷ d ∷ cs) h = (h.0, no_line_ends-add_blank (d ∷ cs) h.1)

fold_first-add_blank : (c : Cell) (cs : List Cell) → is_fold_first (add_blank (c ∷ cs)) ≡ is_fold c
fold_first-add_blank (Byte b) [] = refl
fold_first-add_blank (Fold r) [] = refl
fold_first-add_blank (LfEnd r) [] = refl
fold_first-add_blank (CrLfEnd r) [] = refl
fold_first-add_blank c (d ∷ cs) = refl

bad_fold-add_blank : (cs : List Cell) → has_bad_fold cs ≡ false → has_bad_fold (add_blank cs) ≡ false
bad_fold-add_blank [] h = refl
bad_fold-add_blank (Byte b ∷ []) h = or_from (is_backslash_cell (Byte b) && false) false (and-false (is_backslash_cell (Byte b))) refl
bad_fold-add_blank (Fold r ∷ []) h = refl
bad_fold-add_blank (LfEnd r ∷ []) h = refl
bad_fold-add_blank (CrLfEnd r ∷ []) h = refl
bad_fold-add_blank (c ∷ d ∷ cs) h =
    or_from (is_backslash_cell c && is_fold_first (add_blank (d ∷ cs))) (has_bad_fold (add_blank (d ∷ cs)))
    (ap (λ z. is_backslash_cell c && z) (fold_first-add_blank d cs) ∙ or-left_false (is_backslash_cell c && is_fold d) (has_bad_fold (d ∷ cs)) h)
    (bad_fold-add_blank (d ∷ cs) (or-right_false (is_backslash_cell c && is_fold d) (has_bad_fold (d ∷ cs)) h))

-- these cells are cells that a line may have
pub add_blank-are_line_cells : (cs : List Cell) → AreLineCells cs → AreLineCells (add_blank cs)
add_blank-are_line_cells cs h =
    let e : cells (raw_text cs ++ 32 ∷ []) ≡ add_blank cs = cells-add_blank (raw_text cs) ∙ ap add_blank (AreLineCells-cells cs h) in
    let c : IsClean (add_blank cs) = (no_line_ends-add_blank cs h.clean.0, bad_fold-add_blank cs h.clean.1) in
    subst AreLineCells e (cells-are_line_cells (raw_text cs ++ 32 ∷ []) (subst IsClean (sym e) c))

-- no stray byte comes in
pub has_stray-add_blank : (cs : List Cell) → has_stray cs ≡ false → has_stray (add_blank cs) ≡ false
has_stray-add_blank [] h = refl
has_stray-add_blank (Byte b ∷ []) h = or_from (is_stray (Byte b)) false (or-left_false (is_stray (Byte b)) false h) refl
has_stray-add_blank (Fold r ∷ []) h = refl
has_stray-add_blank (LfEnd r ∷ []) h = cc
has_stray-add_blank (CrLfEnd r ∷ []) h = cc
has_stray-add_blank (c ∷ d ∷ cs) h =
    or_from (is_stray c) (has_stray (add_blank (d ∷ cs))) (or-left_false (is_stray c) (has_stray (d ∷ cs)) h)
    (has_stray-add_blank (d ∷ cs) (or-right_false (is_stray c) (has_stray (d ∷ cs)) h))

-- the joined bytes have a space after them, unless the last cell is a fold
pub joined-add_blank : (c : Cell) (cs : List Cell) → NoLineEnds (c ∷ cs)
    → map joined_byte (add_blank (c ∷ cs)) ≡ (if last_passes is_fold (c ∷ cs) then map joined_byte (c ∷ cs) else map joined_byte (c ∷ cs) ++ 32 ∷ [])
joined-add_blank (Byte b) [] h = refl
joined-add_blank (Fold r) [] h = refl
joined-add_blank (LfEnd r) [] h = cc
joined-add_blank (CrLfEnd r) [] h = cc
joined-add_blank c (d ∷ cs) h = ap (λ z. joined_byte c ∷ z) (joined-add_blank d cs h.1) ∙ go (last_passes is_fold (d ∷ cs))
  where
    go : (t : Bool) → joined_byte c ∷ cond t (map joined_byte (d ∷ cs)) (map joined_byte (d ∷ cs) ++ 32 ∷ [])
        ≡ cond t (joined_byte c ∷ map joined_byte (d ∷ cs)) (joined_byte c ∷ (map joined_byte (d ∷ cs) ++ 32 ∷ []))
    go true = refl
    go false = refl
