-- Laws of pieces: a text in which the replacements of pieces are made is the text that the pieces say, and a line in which some
-- cells are replaced is one line of the new cells.
use Rattle.std.proofs.Common.{◌≡◌, refl, sym, ap, ◌∙◌, ℕ, List, [], ◌∷◌, ◌++◌, map, arith, append_assoc, length, take, drop, ◌-◌, ◌+◌, length-append}
use Rattle.std.proofs.Math.Seq.{take-append_seam, drop-append_seam}
use Rattle.std.proofs.Math.Nat.{add-sub_cancel_left}
use Rattle.mk_lines.specs.Cells.{Byte, raw_text}
use Rattle.mk_lines.proofs.on_cells.CellLemmas.{raw_text-append, raw_text-bytes}
use Rattle.mk_lines.specs.Pieces.{replaced, Piece, Keep, Replace, old_cells, new_cells, old_bytes, new_bytes, replacements}

-- ---- offsets

minus_zero : (n : ℕ) → n - 0 ≡ n
minus_zero n = omega arith

-- one replacement
pub replaced-one : (t p w q v : List ℕ) (s e : ℕ) → t ≡ p ++ (w ++ q) → s ≡ length p → e ≡ s + length w
    → replaced 0 t (record { start = s; end = e; new = v } ∷ []) ≡ p ++ (v ++ q)
replaced-one t p w q v s e h i j =
    let a : e ≡ length (p ++ w) = j ∙ (ap (λ z. z + length w) i ∙ sym (length-append p w)) in
    let x : take (s - 0) t ≡ p = rw (minus_zero s, i, h) (take-append_seam p (w ++ q)) in
    let y : drop (e - 0) t ≡ q = rw (minus_zero e, a, h, ← append_assoc p w q) (drop-append_seam (p ++ w) q) in
    rw (x, y) refl

replaced-from : (a : ℕ) (k : List ℕ) (ps : List Piece) (rest : List ℕ) → replaced a (k ++ (old_bytes ps ++ rest)) (replacements (a + length k) ps) ≡ k ++ (new_bytes ps ++ rest)
replaced-from a k [] rest = refl
replaced-from a k (Keep cs ∷ ps) rest =
    let s : a + length k + length (raw_text cs) ≡ a + length (k ++ raw_text cs) = omega (arith, length-append k (raw_text cs)) in
    let t : k ++ ((raw_text cs ++ old_bytes ps) ++ rest) ≡ (k ++ raw_text cs) ++ (old_bytes ps ++ rest) = simp append_assoc in
    ap (λ z. replaced a z (replacements (a + length k + length (raw_text cs)) ps)) t
    ∙ (ap (λ z. replaced a ((k ++ raw_text cs) ++ (old_bytes ps ++ rest)) (replacements z ps)) s
    ∙ (replaced-from a (k ++ raw_text cs) ps rest ∙ simp append_assoc))
replaced-from a k (Replace cs v ∷ ps) rest =
    let T = k ++ ((raw_text cs ++ old_bytes ps) ++ rest) in
    let t : T ≡ (k ++ raw_text cs) ++ (old_bytes ps ++ rest) = simp append_assoc in
    let x : take (a + length k - a) T ≡ k = ap (λ z. take z T) (add-sub_cancel_left a (length k)) ∙ take-append_seam k ((raw_text cs ++ old_bytes ps) ++ rest) in
    let n : a + length k + length (raw_text cs) - a ≡ length (k ++ raw_text cs) = omega (arith, length-append k (raw_text cs)) in
    let y : drop (a + length k + length (raw_text cs) - a) T ≡ old_bytes ps ++ rest =
    ap (λ z. drop z T) n ∙ (ap (drop (length (k ++ raw_text cs))) t ∙ drop-append_seam (k ++ raw_text cs) (old_bytes ps ++ rest)) in
    let e : a + length k + length (raw_text cs) ≡ a + length k + length (raw_text cs) + 0 = omega arith in
    let z : replaced (a + length k + length (raw_text cs)) (old_bytes ps ++ rest) (replacements (a + length k + length (raw_text cs)) ps) ≡ new_bytes ps ++ rest =
    ap (λ q. replaced (a + length k + length (raw_text cs)) (old_bytes ps ++ rest) (replacements q ps)) e ∙ replaced-from (a + length k + length (raw_text cs)) [] ps rest in
    ap (λ q. q ++ (v ++ replaced (a + length k + length (raw_text cs)) (drop (a + length k + length (raw_text cs) - a) T) (replacements (a + length k + length (raw_text cs)) ps))) x
    ∙ ap (λ q. k ++ q) (ap (λ q. v ++ replaced (a + length k + length (raw_text cs)) q (replacements (a + length k + length (raw_text cs)) ps)) y
    ∙ (ap (λ q. v ++ q) z ∙ sym (append_assoc v (new_bytes ps) rest)))

-- a text p, the pieces of a line, and a text q, with the replacements made
pub replaced-pieces : (p : List ℕ) (ps : List Piece) (q : List ℕ) → replaced 0 (p ++ (old_bytes ps ++ q)) (replacements (length p) ps) ≡ p ++ (new_bytes ps ++ q)
replaced-pieces p ps q = let e : length p ≡ 0 + length p = omega arith in ap (λ z. replaced 0 (p ++ (old_bytes ps ++ q)) (replacements z ps)) e ∙ replaced-from 0 p ps q

-- ---- cells and bytes

-- the bytes of pieces are those of their cells
pub raw_text-old_cells : (ps : List Piece) → raw_text (old_cells ps) ≡ old_bytes ps
raw_text-old_cells [] = refl
raw_text-old_cells (Keep cs ∷ ps) = raw_text-append cs (old_cells ps) ∙ ap (λ z. raw_text cs ++ z) (raw_text-old_cells ps)
raw_text-old_cells (Replace cs v ∷ ps) = raw_text-append cs (old_cells ps) ∙ ap (λ z. raw_text cs ++ z) (raw_text-old_cells ps)

pub raw_text-new_cells : (ps : List Piece) → raw_text (new_cells ps) ≡ new_bytes ps
raw_text-new_cells [] = refl
raw_text-new_cells (Keep cs ∷ ps) = raw_text-append cs (new_cells ps) ∙ ap (λ z. raw_text cs ++ z) (raw_text-new_cells ps)
raw_text-new_cells (Replace cs v ∷ ps) =
    raw_text-append (map Byte v) (new_cells ps) ∙ (ap (λ z. z ++ raw_text (new_cells ps)) (raw_text-bytes v) ∙ ap (λ z. v ++ z) (raw_text-new_cells ps))

-- cells and bytes of two lists of pieces
pub old_cells-append : (ps qs : List Piece) → old_cells (ps ++ qs) ≡ old_cells ps ++ old_cells qs
old_cells-append [] qs = refl
old_cells-append (Keep cs ∷ ps) qs = ap (λ z. cs ++ z) (old_cells-append ps qs) ∙ sym (append_assoc cs (old_cells ps) (old_cells qs))
old_cells-append (Replace cs v ∷ ps) qs = ap (λ z. cs ++ z) (old_cells-append ps qs) ∙ sym (append_assoc cs (old_cells ps) (old_cells qs))

pub new_cells-append : (ps qs : List Piece) → new_cells (ps ++ qs) ≡ new_cells ps ++ new_cells qs
new_cells-append [] qs = refl
new_cells-append (Keep cs ∷ ps) qs = ap (λ z. cs ++ z) (new_cells-append ps qs) ∙ sym (append_assoc cs (new_cells ps) (new_cells qs))
new_cells-append (Replace cs v ∷ ps) qs = ap (λ z. map Byte v ++ z) (new_cells-append ps qs) ∙ sym (append_assoc (map Byte v) (new_cells ps) (new_cells qs))

pub old_bytes-append : (ps qs : List Piece) → old_bytes (ps ++ qs) ≡ old_bytes ps ++ old_bytes qs
old_bytes-append [] qs = refl
old_bytes-append (Keep cs ∷ ps) qs = ap (λ z. raw_text cs ++ z) (old_bytes-append ps qs) ∙ sym (append_assoc (raw_text cs) (old_bytes ps) (old_bytes qs))
old_bytes-append (Replace cs v ∷ ps) qs = ap (λ z. raw_text cs ++ z) (old_bytes-append ps qs) ∙ sym (append_assoc (raw_text cs) (old_bytes ps) (old_bytes qs))

pub new_bytes-append : (ps qs : List Piece) → new_bytes (ps ++ qs) ≡ new_bytes ps ++ new_bytes qs
new_bytes-append [] qs = refl
new_bytes-append (Keep cs ∷ ps) qs = ap (λ z. raw_text cs ++ z) (new_bytes-append ps qs) ∙ sym (append_assoc (raw_text cs) (new_bytes ps) (new_bytes qs))
new_bytes-append (Replace cs v ∷ ps) qs = ap (λ z. v ++ z) (new_bytes-append ps qs) ∙ sym (append_assoc v (new_bytes ps) (new_bytes qs))
