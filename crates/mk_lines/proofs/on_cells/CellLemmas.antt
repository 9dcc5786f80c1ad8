-- Laws of cells: a list of cells that fit is read again from its raw bytes.
use Rattle.std.proofs.Common.{◌≡◌, refl, sym, ap, ◌∙◌, ℕ, List, [], ◌∷◌, ◌++◌, map, Bool, true, false, not, append_assoc}
use Rattle.std.proofs.lemmas.List.{append-nil}
use Rattle.mk_lines.specs.Lists.{leading, after_leading, FirstFails, Each}
use Rattle.mk_lines.specs.Bytes.{ByteKind, byte_kind, LineFeed, CarriageReturn, Backslash, Blank, Ordinary, is_blank_kind}
use Rattle.mk_lines.specs.Cells.{Cell, Byte, Fold, LfEnd, CrLfEnd, raw_bytes, raw_text, is_blank_cell, prepend, cells, NoLineEnds}
use Rattle.mk_lines.proofs.on_lists.ListLemmas.{leading-after_leading, leading-each, after_leading-first_fails, leading-append_all, after_leading-append_all, leading-append, after_leading-append}

-- the raw bytes of two lists of cells
pub raw_text-append : (a b : List Cell) → raw_text (a ++ b) ≡ raw_text a ++ raw_text b
raw_text-append [] b = refl
raw_text-append (c ∷ a) b = rw (raw_text-append a b) (sym (append_assoc (raw_bytes c) (raw_text a) (raw_text b)))

-- bytes as cells are their own raw bytes
pub raw_text-bytes : (v : List ℕ) → raw_text (map Byte v) ≡ v
raw_text-bytes [] = refl
raw_text-bytes (b ∷ v) = ap (λ l. b ∷ l) (raw_text-bytes v)

raw_text-prepend : (k : ByteKind) (b : ℕ) (cs : List Cell) → raw_text (prepend k b cs) ≡ b ∷ raw_text cs
raw_text-prepend LineFeed b cs = ap (λ l. b ∷ l) (sym (raw_text-append (leading is_blank_cell cs) (after_leading is_blank_cell cs)) ∙ ap raw_text (leading-after_leading is_blank_cell cs))
raw_text-prepend CarriageReturn b [] = refl
raw_text-prepend CarriageReturn b (Byte x ∷ cs) = refl
raw_text-prepend CarriageReturn b (Fold r ∷ cs) = refl
raw_text-prepend CarriageReturn b (LfEnd r ∷ cs) = refl
raw_text-prepend CarriageReturn b (CrLfEnd r ∷ cs) = refl
raw_text-prepend Backslash b [] = refl
raw_text-prepend Backslash b (Byte x ∷ cs) = refl
raw_text-prepend Backslash b (Fold r ∷ cs) = refl
raw_text-prepend Backslash b (LfEnd r ∷ cs) = refl
raw_text-prepend Backslash b (CrLfEnd r ∷ cs) = refl
raw_text-prepend Blank b [] = refl
raw_text-prepend Blank b (Byte x ∷ cs) = refl
raw_text-prepend Blank b (Fold r ∷ cs) = refl
raw_text-prepend Blank b (LfEnd r ∷ cs) = refl
raw_text-prepend Blank b (CrLfEnd r ∷ cs) = refl
raw_text-prepend Ordinary b cs = refl

-- the raw bytes of the cells of a text are the text
pub raw_text-cells : (t : List ℕ) → raw_text (cells t) ≡ t
raw_text-cells [] = refl
raw_text-cells (b ∷ t) = raw_text-prepend (byte_kind b) b (cells t) ∙ ap (λ l. b ∷ l) (raw_text-cells t)

-- ---- cells that fit

-- whether a byte of this kind stays as it is before a cell, and is not joined with it
abbrev pub byte_fits_before : ByteKind → Cell → Bool
byte_fits_before Blank (Fold r) = false
byte_fits_before CarriageReturn (LfEnd r) = false
byte_fits_before Backslash (LfEnd r) = false
byte_fits_before Backslash (CrLfEnd r) = false
byte_fits_before k d = true

-- whether a cell stays as it is before another
abbrev fits_before : Cell → Cell → Bool
fits_before (Byte b) d = byte_fits_before (byte_kind b) d
fits_before (Fold r) d = not (is_blank_cell d)
fits_before (LfEnd r) d = not (is_blank_cell d)
fits_before (CrLfEnd r) d = not (is_blank_cell d)

-- a cell stays as it is before the cells that follow it
abbrev pub FitsBefore : Cell → List Cell → Type 0
FitsBefore c [] = Unit {0}
FitsBefore c (d ∷ ds) = fits_before c d ≡ true

-- a cell as it is read: a byte that is no line feed, or what its raw bytes are read as
abbrev pub IsCell : Cell → Type 0
IsCell (Byte b) = byte_kind b ≡ LineFeed → ⊥
IsCell (Fold r) = cells r ≡ Fold r ∷ []
IsCell (LfEnd r) = cells r ≡ LfEnd r ∷ []
IsCell (CrLfEnd r) = cells r ≡ CrLfEnd r ∷ []

-- cells as they are read: each is a cell, and each stays as it is before the next
abbrev pub AreCells : List Cell → Type 0
AreCells [] = Unit {0}
AreCells (c ∷ cs) = IsCell c × FitsBefore c cs × AreCells cs

-- whether a cell is solid: a byte that is no blank
abbrev pub is_solid : Cell → Bool
is_solid (Byte b) = not (is_blank_kind (byte_kind b))
is_solid (Fold r) = false
is_solid (LfEnd r) = false
is_solid (CrLfEnd r) = false

-- the first cell, if there is one, is a byte that is no blank
abbrev FirstSolid : List Cell → Type 0
FirstSolid [] = Unit {0}
FirstSolid (d ∷ ds) = is_solid d ≡ true

FirstSolid-first_fails : (D : List Cell) → FirstSolid D → FirstFails is_blank_cell D
FirstSolid-first_fails [] h = tt
FirstSolid-first_fails (Byte b ∷ D) h = go (is_blank_kind (byte_kind b)) h
  where
    go : (c : Bool) → not c ≡ true → c ≡ false
    go true e = cc
    go false e = refl
FirstSolid-first_fails (Fold r ∷ D) h = cc
FirstSolid-first_fails (LfEnd r ∷ D) h = refl
FirstSolid-first_fails (CrLfEnd r ∷ D) h = refl

prepend-append : (k : ByteKind) (b : ℕ) (C D : List Cell) → FirstSolid D → prepend k b (C ++ D) ≡ prepend k b C ++ D
prepend-append LineFeed b C D h = rw (leading-append is_blank_cell C D (FirstSolid-first_fails D h), after_leading-append is_blank_cell C D (FirstSolid-first_fails D h)) refl
prepend-append CarriageReturn b [] [] h = refl
prepend-append CarriageReturn b [] (Byte x ∷ D) h = refl
prepend-append CarriageReturn b [] (Fold r ∷ D) h = refl
prepend-append CarriageReturn b [] (LfEnd r ∷ D) h = cc
prepend-append CarriageReturn b [] (CrLfEnd r ∷ D) h = cc
prepend-append CarriageReturn b (Byte x ∷ C) D h = refl
prepend-append CarriageReturn b (Fold r ∷ C) D h = refl
prepend-append CarriageReturn b (LfEnd r ∷ C) D h = refl
prepend-append CarriageReturn b (CrLfEnd r ∷ C) D h = refl
prepend-append Backslash b [] [] h = refl
prepend-append Backslash b [] (Byte x ∷ D) h = refl
prepend-append Backslash b [] (Fold r ∷ D) h = refl
prepend-append Backslash b [] (LfEnd r ∷ D) h = cc
prepend-append Backslash b [] (CrLfEnd r ∷ D) h = cc
prepend-append Backslash b (Byte x ∷ C) D h = refl
prepend-append Backslash b (Fold r ∷ C) D h = refl
prepend-append Backslash b (LfEnd r ∷ C) D h = refl
prepend-append Backslash b (CrLfEnd r ∷ C) D h = refl
prepend-append Blank b [] [] h = refl
prepend-append Blank b [] (Byte x ∷ D) h = refl
prepend-append Blank b [] (Fold r ∷ D) h = cc
prepend-append Blank b [] (LfEnd r ∷ D) h = refl
prepend-append Blank b [] (CrLfEnd r ∷ D) h = refl
prepend-append Blank b (Byte x ∷ C) D h = refl
prepend-append Blank b (Fold r ∷ C) D h = refl
prepend-append Blank b (LfEnd r ∷ C) D h = refl
prepend-append Blank b (CrLfEnd r ∷ C) D h = refl
prepend-append Ordinary b C D h = refl

-- the cells of a text before a text whose first cell is a byte that is not blank
pub cells-append : (a t : List ℕ) → FirstSolid (cells t) → cells (a ++ t) ≡ cells a ++ cells t
cells-append [] t h = refl
cells-append (b ∷ a) t h = rw (cells-append a t h) (prepend-append (byte_kind b) b (cells a) (cells t) h)

prepend-byte : (k : ByteKind) (b : ℕ) (cs : List Cell) → byte_kind b ≡ k → (k ≡ LineFeed → ⊥) → FitsBefore (Byte b) cs → prepend k b cs ≡ Byte b ∷ cs
prepend-byte LineFeed b cs e h f = absurd (h refl)
prepend-byte CarriageReturn b [] e h f = refl
prepend-byte CarriageReturn b (Byte x ∷ cs) e h f = refl
prepend-byte CarriageReturn b (Fold r ∷ cs) e h f = refl
prepend-byte CarriageReturn b (LfEnd r ∷ cs) e h f = absurd (let g : false ≡ true = rw e at f in cc)
prepend-byte CarriageReturn b (CrLfEnd r ∷ cs) e h f = refl
prepend-byte Backslash b [] e h f = refl
prepend-byte Backslash b (Byte x ∷ cs) e h f = refl
prepend-byte Backslash b (Fold r ∷ cs) e h f = refl
prepend-byte Backslash b (LfEnd r ∷ cs) e h f = absurd (let g : false ≡ true = rw e at f in cc)
prepend-byte Backslash b (CrLfEnd r ∷ cs) e h f = absurd (let g : false ≡ true = rw e at f in cc)
prepend-byte Blank b [] e h f = refl
prepend-byte Blank b (Byte x ∷ cs) e h f = refl
prepend-byte Blank b (Fold r ∷ cs) e h f = absurd (let g : false ≡ true = rw e at f in cc)
prepend-byte Blank b (LfEnd r ∷ cs) e h f = refl
prepend-byte Blank b (CrLfEnd r ∷ cs) e h f = refl
prepend-byte Ordinary b cs e h f = refl

FitsBefore-solid : (r : List ℕ) (cs : List Cell) → FitsBefore (Fold r) cs → NoLineEnds cs → FirstSolid cs
FitsBefore-solid r [] f n = tt
FitsBefore-solid r (Byte b ∷ cs) f n = f
FitsBefore-solid r (Fold s ∷ cs) f n = f
FitsBefore-solid r (LfEnd s ∷ cs) f n = cc
FitsBefore-solid r (CrLfEnd s ∷ cs) f n = cc

-- cells as they are read, without line ends, are read again from their raw bytes
pub cells-raw_text : (cs : List Cell) → AreCells cs → NoLineEnds cs → cells (raw_text cs) ≡ cs
cells-raw_text [] f n = refl
cells-raw_text (Byte b ∷ cs) f n = rw (cells-raw_text cs f.2 n.1) (prepend-byte (byte_kind b) b cs refl f.0 f.1)
cells-raw_text (Fold r ∷ cs) f n =
    let s : cells (raw_text cs) ≡ cs = cells-raw_text cs f.2 n.1 in
    let h : FirstSolid (cells (raw_text cs)) = rw s (FitsBefore-solid r cs f.1 n.1) in
    rw (cells-append r (raw_text cs) h, s, f.0) refl
cells-raw_text (LfEnd r ∷ cs) f n = cc
cells-raw_text (CrLfEnd r ∷ cs) f n = cc

-- ---- the cells of a text fit

-- the first part of cells that fit has cells that fit
pub AreCells-left : (a b : List Cell) → AreCells (a ++ b) → AreCells a
AreCells-left [] b f = tt
AreCells-left (c ∷ []) b f = (f.0, tt, tt)
AreCells-left (c ∷ d ∷ a) b f = (f.0, f.1, AreCells-left (d ∷ a) b f.2)

-- the last part of cells that fit has cells that fit
pub AreCells-right : (a b : List Cell) → AreCells (a ++ b) → AreCells b
AreCells-right [] b f = f
AreCells-right (c ∷ a) b f = AreCells-right a b f.2

-- the last cell of one list fits before the other
abbrev pub Meets : List Cell → List Cell → Type 0
Meets [] b = Unit {0}
Meets (c ∷ []) b = FitsBefore c b
Meets (c ∷ d ∷ a) b = Meets (d ∷ a) b

-- two lists of cells that fit, put together: the cells fit if the lists meet
pub AreCells-append : (a b : List Cell) → AreCells a → AreCells b → Meets a b → AreCells (a ++ b)
AreCells-append [] b f g m = g
AreCells-append (c ∷ []) b f g m = (f.0, m, g)
AreCells-append (c ∷ d ∷ a) b f g m = (f.0, f.1, AreCells-append (d ∷ a) b f.2 g m)

solid-fits_before : (c d : Cell) → is_solid d ≡ true → fits_before c d ≡ true
solid-fits_before (Byte b) (Byte x) h = go (byte_kind b)
  where
    go : (k : ByteKind) → byte_fits_before k (Byte x) ≡ true
    go LineFeed = refl
    go CarriageReturn = refl
    go Backslash = refl
    go Blank = refl
    go Ordinary = refl
solid-fits_before (Byte b) (Fold r) h = cc
solid-fits_before (Byte b) (LfEnd r) h = cc
solid-fits_before (Byte b) (CrLfEnd r) h = cc
solid-fits_before (Fold r) (Byte x) h = h
solid-fits_before (Fold r) (Fold s) h = cc
solid-fits_before (Fold r) (LfEnd s) h = cc
solid-fits_before (Fold r) (CrLfEnd s) h = cc
solid-fits_before (LfEnd r) (Byte x) h = h
solid-fits_before (CrLfEnd r) (Byte x) h = h
solid-fits_before (LfEnd r) (Fold s) h = cc
solid-fits_before (CrLfEnd r) (Fold s) h = cc
solid-fits_before (LfEnd r) (LfEnd s) h = cc
solid-fits_before (LfEnd r) (CrLfEnd s) h = cc
solid-fits_before (CrLfEnd r) (LfEnd s) h = cc
solid-fits_before (CrLfEnd r) (CrLfEnd s) h = cc

-- any cells meet a byte that is no blank
pub solid-meets : (a : List Cell) (d : Cell) (b : List Cell) → is_solid d ≡ true → Meets a (d ∷ b)
solid-meets [] d b h = tt
solid-meets (c ∷ []) d b h = solid-fits_before c d h
solid-meets (c ∷ e ∷ a) d b h = solid-meets (e ∷ a) d b h

leading-no_line_ends : (cs : List Cell) → NoLineEnds (leading is_blank_cell cs)
leading-no_line_ends cs = go (leading is_blank_cell cs) (leading-each is_blank_cell cs)
  where
    go : (F : List Cell) → Each is_blank_cell F → NoLineEnds F
    go [] h = tt
    go (Byte b ∷ F) h = (refl, go F h.1)
    go (Fold r ∷ F) h = (refl, go F h.1)
    go (LfEnd r ∷ F) h = cc
    go (CrLfEnd r ∷ F) h = cc

line_end-fits_before : (r : List ℕ) (cs : List Cell) → FirstFails is_blank_cell cs → FitsBefore (LfEnd r) cs
line_end-fits_before r [] h = tt
line_end-fits_before r (d ∷ cs) h = rw h refl

leading-leading : (cs : List Cell) → leading is_blank_cell (leading is_blank_cell cs) ≡ leading is_blank_cell cs
leading-leading cs = rw (append-nil (leading is_blank_cell cs)) at (leading-append_all is_blank_cell (leading is_blank_cell cs) [] (leading-each is_blank_cell cs) tt)

after_leading-leading : (cs : List Cell) → after_leading is_blank_cell (leading is_blank_cell cs) ≡ []
after_leading-leading cs = rw (append-nil (leading is_blank_cell cs)) at (after_leading-append_all is_blank_cell (leading is_blank_cell cs) [] (leading-each is_blank_cell cs) tt)

prepend-line_feed_are_cells : (b : ℕ) (cs : List Cell) → byte_kind b ≡ LineFeed → AreCells cs → AreCells (prepend LineFeed b cs)
prepend-line_feed_are_cells b cs e f =
    let g : AreCells (leading is_blank_cell cs ++ after_leading is_blank_cell cs) = rw (leading-after_leading is_blank_cell cs) f in
    let s : cells (raw_text (leading is_blank_cell cs)) ≡ leading is_blank_cell cs = cells-raw_text (leading is_blank_cell cs) (AreCells-left (leading is_blank_cell cs) (after_leading is_blank_cell cs) g) (leading-no_line_ends cs) in (
      rw (e, s, leading-leading cs, after_leading-leading cs) refl,
      line_end-fits_before (b ∷ raw_text (leading is_blank_cell cs)) (after_leading is_blank_cell cs) (after_leading-first_fails is_blank_cell cs),
      AreCells-right (leading is_blank_cell cs) (after_leading is_blank_cell cs) g,
    )

prepend-are_cells : (k : ByteKind) (b : ℕ) (cs : List Cell) → byte_kind b ≡ k → AreCells cs → AreCells (prepend k b cs)
prepend-are_cells LineFeed b cs e f = prepend-line_feed_are_cells b cs e f
prepend-are_cells CarriageReturn b [] e f = ((λ l. cc), tt, tt)
prepend-are_cells CarriageReturn b (Byte x ∷ cs) e f = ((λ l. cc), rw e refl, f)
prepend-are_cells CarriageReturn b (Fold r ∷ cs) e f = ((λ l. cc), rw e refl, f)
prepend-are_cells CarriageReturn b (LfEnd r ∷ cs) e f = (rw (e, f.0) refl, same_fits r (b ∷ r) cs f.1, f.2)
  where
    same_fits : (r s : List ℕ) (cs : List Cell) → FitsBefore (LfEnd r) cs → FitsBefore (CrLfEnd s) cs
    same_fits r s [] h = tt
    same_fits r s (d ∷ cs) h = h
prepend-are_cells CarriageReturn b (CrLfEnd r ∷ cs) e f = ((λ l. cc), rw e refl, f)
prepend-are_cells Backslash b [] e f = ((λ l. cc), tt, tt)
prepend-are_cells Backslash b (Byte x ∷ cs) e f = ((λ l. cc), rw e refl, f)
prepend-are_cells Backslash b (Fold r ∷ cs) e f = ((λ l. cc), rw e refl, f)
prepend-are_cells Backslash b (LfEnd r ∷ cs) e f = (rw (e, f.0) refl, same_fits r (b ∷ r) cs f.1, f.2)
  where
    same_fits : (r s : List ℕ) (cs : List Cell) → FitsBefore (LfEnd r) cs → FitsBefore (Fold s) cs
    same_fits r s [] h = tt
    same_fits r s (d ∷ cs) h = h
prepend-are_cells Backslash b (CrLfEnd r ∷ cs) e f = (rw (e, f.0) refl, same_fits r (b ∷ r) cs f.1, f.2)
  where
    same_fits : (r s : List ℕ) (cs : List Cell) → FitsBefore (CrLfEnd r) cs → FitsBefore (Fold s) cs
    same_fits r s [] h = tt
    same_fits r s (d ∷ cs) h = h
prepend-are_cells Blank b [] e f = ((λ l. cc), tt, tt)
prepend-are_cells Blank b (Byte x ∷ cs) e f = ((λ l. cc), rw e refl, f)
prepend-are_cells Blank b (Fold r ∷ cs) e f = (rw (e, f.0) refl, same_fits r (b ∷ r) cs f.1, f.2)
  where
    same_fits : (r s : List ℕ) (cs : List Cell) → FitsBefore (Fold r) cs → FitsBefore (Fold s) cs
    same_fits r s [] h = tt
    same_fits r s (d ∷ cs) h = h
prepend-are_cells Blank b (LfEnd r ∷ cs) e f = ((λ l. cc), rw e refl, f)
prepend-are_cells Blank b (CrLfEnd r ∷ cs) e f = ((λ l. cc), rw e refl, f)
prepend-are_cells Ordinary b [] e f = ((λ l. cc), tt, tt)
prepend-are_cells Ordinary b (Byte x ∷ cs) e f = ((λ l. cc), rw e refl, f)
prepend-are_cells Ordinary b (Fold r ∷ cs) e f = ((λ l. cc), rw e refl, f)
prepend-are_cells Ordinary b (LfEnd r ∷ cs) e f = ((λ l. cc), rw e refl, f)
prepend-are_cells Ordinary b (CrLfEnd r ∷ cs) e f = ((λ l. cc), rw e refl, f)

-- the cells of a text fit
pub cells-are_cells : (t : List ℕ) → AreCells (cells t)
cells-are_cells [] = tt
cells-are_cells (b ∷ t) = prepend-are_cells (byte_kind b) b (cells t) refl (cells-are_cells t)
