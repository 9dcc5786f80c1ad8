-- Bytes inside lines replaced by their offsets in the text: the lines in which they stand have them replaced, and the others
-- stay.
use Rattle.std.proofs.Common.{◌≡◌, refl, sym, ap, ◌∙◌, arith, ℕ, List, [], ◌∷◌, ◌++◌, map, append_assoc, length, length-append, drop, ◌+◌}
use Rattle.std.proofs.lemmas.List.{append-nil}
use Rattle.mk_lines.specs.Cells.{Byte, raw_text}
use Rattle.mk_lines.proofs.on_cells.CellLemmas.{raw_text-bytes}
use Rattle.mk_lines.specs.Pieces.{Replacement, replaced, Piece, Keep, Replace, old_bytes, new_bytes, replacements}
use Rattle.mk_lines.proofs.on_lists.PieceLemmas.{replaced-one, replaced-pieces, old_bytes-append, new_bytes-append}
use Rattle.mk_class.specs.ClassedLines.{ClassedLine, classed_lines}
use Rattle.mk_tree.specs.LineTexts.{text_of}
use Rattle.mk_tree.proofs.on_documents.LinesInText.{line-in_text}

-- ---- one span inside a line

-- The bytes w of a line, after the bytes p, replaced by the bytes v.
pub text-span_replaced : (t : List ℕ) (above : List ClassedLine) (l : ClassedLine) (below : List ClassedLine) (p w q v : List ℕ) (start end : ℕ) → classed_lines t ≡ above ++ l ∷ below
    → l.bytes ≡ p ++ (w ++ q) → start ≡ length (text_of above) + length p → end ≡ start + length w
    → replaced 0 t (record { start = start; end = end; new = v } ∷ []) ≡ text_of above ++ ((p ++ (v ++ q)) ++ text_of below)
text-span_replaced t above l below p w q v start end h k i j =
    let a = text_of above in
    let b = text_of below in
    let whole : t ≡ (a ++ p) ++ (w ++ (q ++ b)) = (line-in_text t above l below h).text ∙ (ap (λ z. a ++ (z ++ b)) k ∙ simp append_assoc) in
    replaced-one t (a ++ p) w (q ++ b) v start end whole (i ∙ sym (length-append a p)) j ∙ simp append_assoc

-- The pieces of a line, which begin it, with their replacements made.
pub text-pieces_replaced : (t : List ℕ) (above : List ClassedLine) (l : ClassedLine) (below : List ClassedLine) (ps : List Piece) (rest : List ℕ) → classed_lines t ≡ above ++ l ∷ below
    → l.bytes ≡ old_bytes ps ++ rest
    → replaced 0 t (replacements (length (text_of above)) ps) ≡ text_of above ++ ((new_bytes ps ++ rest) ++ text_of below)
text-pieces_replaced t above l below ps rest h k =
    let a = text_of above in
    let b = text_of below in
    let whole : t ≡ a ++ (old_bytes ps ++ (rest ++ b)) = (line-in_text t above l below h).text ∙ (ap (λ z. a ++ (z ++ b)) k ∙ simp append_assoc) in
    ap (λ z. replaced 0 z (replacements (length a) ps)) whole ∙ (replaced-pieces a ps (rest ++ b) ∙ simp append_assoc)

-- ---- spans inside several lines

-- what stands in a line after the pieces that begin it
abbrev pub after_pieces : (ClassedLine → List Piece) → ClassedLine → List ℕ
after_pieces f l = drop (length (old_bytes (f l))) l.bytes

-- each line begins with its pieces
abbrev pub BeginWithPieces : (ClassedLine → List Piece) → List ClassedLine → Type 0
BeginWithPieces f [] = Unit {0}
BeginWithPieces f (l ∷ ls) = (l.bytes ≡ old_bytes (f l) ++ after_pieces f l) × BeginWithPieces f ls

-- the replacements in lines, the first of which begins at an offset
abbrev pub line_replacements : (ClassedLine → List Piece) → (at : ℕ) → List ClassedLine → List Replacement
line_replacements f at [] = []
line_replacements f at (l ∷ ls) = replacements at (f l) ++ line_replacements f (at + length l.bytes) ls

-- the text of lines with their replacements made
abbrev pub replaced_text : (ClassedLine → List Piece) → List ClassedLine → List ℕ
replaced_text f [] = []
replaced_text f (l ∷ ls) = (new_bytes (f l) ++ after_pieces f l) ++ replaced_text f ls

-- the pieces of several lines, as those of one line
whole_pieces : (ClassedLine → List Piece) → List ClassedLine → List Piece
whole_pieces f [] = []
whole_pieces f (l ∷ ls) = f l ++ (Keep (map Byte (after_pieces f l)) ∷ whole_pieces f ls)

pub replacements-append : (at : ℕ) (ps qs : List Piece) → replacements at (ps ++ qs) ≡ replacements at ps ++ replacements (at + length (old_bytes ps)) qs
replacements-append at [] qs = let e : at ≡ at + 0 = omega arith in ap (λ z. replacements z qs) e
replacements-append at (Keep cs ∷ ps) qs =
    let e : at + length (raw_text cs) + length (old_bytes ps) ≡ at + length (raw_text cs ++ old_bytes ps) = omega (arith, length-append (raw_text cs) (old_bytes ps)) in
    replacements-append (at + length (raw_text cs)) ps qs ∙ ap (λ z. replacements (at + length (raw_text cs)) ps ++ replacements z qs) e
replacements-append at (Replace cs v ∷ ps) qs =
    let e : at + length (raw_text cs) + length (old_bytes ps) ≡ at + length (raw_text cs ++ old_bytes ps) = omega (arith, length-append (raw_text cs) (old_bytes ps)) in
    ap (λ z. record { start = at; end = at + length (raw_text cs); new = v } ∷ z)
    (replacements-append (at + length (raw_text cs)) ps qs ∙ ap (λ z. replacements (at + length (raw_text cs)) ps ++ replacements z qs) e)

whole-old : (f : ClassedLine → List Piece) (ls : List ClassedLine) → BeginWithPieces f ls → old_bytes (whole_pieces f ls) ≡ text_of ls
unfolding whole_pieces
whole-old f [] h = refl
whole-old f (l ∷ ls) h =
    old_bytes-append (f l) (Keep (map Byte (after_pieces f l)) ∷ whole_pieces f ls)
    ∙ (ap (λ z. old_bytes (f l) ++ (z ++ old_bytes (whole_pieces f ls))) (raw_text-bytes (after_pieces f l))
    ∙ (sym (append_assoc (old_bytes (f l)) (after_pieces f l) (old_bytes (whole_pieces f ls)))
    ∙ (ap (λ z. z ++ old_bytes (whole_pieces f ls)) (sym h.0) ∙ ap (λ z. l.bytes ++ z) (whole-old f ls h.1))))

whole-new : (f : ClassedLine → List Piece) (ls : List ClassedLine) → new_bytes (whole_pieces f ls) ≡ replaced_text f ls
unfolding whole_pieces
whole-new f [] = refl
whole-new f (l ∷ ls) =
    new_bytes-append (f l) (Keep (map Byte (after_pieces f l)) ∷ whole_pieces f ls)
    ∙ (ap (λ z. new_bytes (f l) ++ (z ++ new_bytes (whole_pieces f ls))) (raw_text-bytes (after_pieces f l))
    ∙ (sym (append_assoc (new_bytes (f l)) (after_pieces f l) (new_bytes (whole_pieces f ls)))
    ∙ ap (λ z. (new_bytes (f l) ++ after_pieces f l) ++ z) (whole-new f ls)))

whole-replacements : (f : ClassedLine → List Piece) (at : ℕ) (ls : List ClassedLine) → BeginWithPieces f ls → replacements at (whole_pieces f ls) ≡ line_replacements f at ls
unfolding whole_pieces
whole-replacements f at [] h = refl
whole-replacements f at (l ∷ ls) h =
    let n : length l.bytes ≡ length (old_bytes (f l)) + length (after_pieces f l) = ap length h.0 ∙ length-append (old_bytes (f l)) (after_pieces f l) in
    let m : length (raw_text (map Byte (after_pieces f l))) ≡ length (after_pieces f l) = ap length (raw_text-bytes (after_pieces f l)) in
    let e : at + length (old_bytes (f l)) + length (raw_text (map Byte (after_pieces f l))) ≡ at + length l.bytes = omega (arith, n, m) in
    replacements-append at (f l) (Keep (map Byte (after_pieces f l)) ∷ whole_pieces f ls)
    ∙ ap (λ z. replacements at (f l) ++ z) (ap (λ z. replacements z (whole_pieces f ls)) e ∙ whole-replacements f (at + length l.bytes) ls h.1)

-- The replacements in some lines of a text made.
text-lines_replaced : (f : ClassedLine → List Piece) (p : List ℕ) (ls : List ClassedLine) (q : List ℕ) → BeginWithPieces f ls
    → replaced 0 (p ++ (text_of ls ++ q)) (line_replacements f (length p) ls) ≡ p ++ (replaced_text f ls ++ q)
text-lines_replaced f p ls q h =
    ap (λ z. replaced 0 (p ++ (z ++ q)) (line_replacements f (length p) ls)) (sym (whole-old f ls h))
    ∙ (ap (replaced 0 (p ++ (old_bytes (whole_pieces f ls) ++ q))) (sym (whole-replacements f (length p) ls h))
    ∙ (replaced-pieces p (whole_pieces f ls) q ∙ ap (λ z. p ++ (z ++ q)) (whole-new f ls)))

-- The replacements in all lines of a text made.
pub text-all_lines_replaced : (f : ClassedLine → List Piece) (t : List ℕ) (ls : List ClassedLine) → text_of ls ≡ t → BeginWithPieces f ls → replaced 0 t (line_replacements f 0 ls) ≡ replaced_text f ls
text-all_lines_replaced f t ls e h =
    ap (λ z. replaced 0 z (line_replacements f 0 ls)) (sym e ∙ sym (append-nil (text_of ls))) ∙ (text-lines_replaced f [] ls [] h ∙ append-nil (replaced_text f ls))
