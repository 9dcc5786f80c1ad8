-- The places of the pieces of a line that are replaced: by ranges of the joined text, and by raw ranges; and what comes of a text
-- put there.
use Rattle.std.proofs.Common.{◌≡◌, refl, sym, ap, ◌∙◌, arith, ℕ, ◌+◌, ◌-◌, ◌≤◌, List, [], ◌∷◌, ◌++◌, map, take, drop, length, length-append, append_assoc, take-add}
use Rattle.std.specs.Prelude.{slice_range}
use Rattle.std.proofs.lemmas.List.{append-nil, length-map, map-append, drop-drop}
use Rattle.mk_lines.specs.Cells.{Cell, Byte, joined_byte, raw_text}
use Rattle.mk_lines.specs.Pieces.{Piece, Keep, Replace, old_cells, new_cells, replacements}
use Rattle.mk_lines.specs.Ranges.{raw_offset}
use Rattle.mk_lines.specs.declared.split.Span.{Span}
use Rattle.mk_lines.proofs.on_cells.CellLemmas.{raw_text-append}
use Rattle.mk_class.proofs.on_classes.PartOffsetLemmas.{offset-after}
use Rattle.mk_edit_language.proofs.on_edits.RisingSpanLemmas.{same_replacement}
use Rattle.mk_edit_language.proofs.on_values.SetValueLemmas.{bytes-joined}
use Rattle.mk_edit_parts.specs.LineChangePlaces.{raw_ranges}
use Rattle.mk_edit_parts.specs.RenamedRanges.{span}
use Rattle.mk_edit_parts.specs.RenamedTexts.{written}
use Rattle.mk_edit_parts.specs.WordCuts.{last_end}
use Rattle.mk_edit_parts.proofs.on_renaming.PieceRanges.{replacing}
use Rattle.mk_edit_parts.proofs.on_prerequisites.WordRangeLemmas.{slice-at}

-- the ranges of the pieces that are replaced, in the joined text of the cells before; the first piece begins at this offset
abbrev pub places : (at : ℕ) → List Piece → List Span
places at [] = []
places at (Keep cs ∷ ps) = places (at + length cs) ps
places at (Replace cs v ∷ ps) = span at (at + length cs) ∷ places (at + length cs) ps

-- each piece that is replaced becomes this text
abbrev pub AllBecome : (new : List ℕ) → List Piece → Type 0
AllBecome n [] = Unit {0}
AllBecome n (Keep cs ∷ ps) = AllBecome n ps
AllBecome n (Replace cs v ∷ ps) = (v ≡ n) × AllBecome n ps

-- ---- raw ranges

-- the replacements of pieces are those of the raw ranges of their places
pub places-raw : (cs b a : List Cell) (ps : List Piece) (n : List ℕ) (at : ℕ) → AllBecome n ps → cs ≡ b ++ (old_cells ps ++ a) → at ≡ length b
    → replacing n (raw_ranges cs (places at ps)) ≡ replacements (length (raw_text b)) ps
places-raw cs b a [] n at all h k = refl
places-raw cs b a (Keep ks ∷ ps) n at all h k =
    let e : cs ≡ (b ++ ks) ++ (old_cells ps ++ a) = h ∙ simp append_assoc in
    let m : at + length ks ≡ length (b ++ ks) = omega (arith, k, length-append b ks) in
    let r : length (raw_text (b ++ ks)) ≡ length (raw_text b) + length (raw_text ks) = ap length (raw_text-append b ks) ∙ length-append (raw_text b) (raw_text ks) in
    places-raw cs (b ++ ks) a ps n (at + length ks) all e m ∙ ap (λ z. replacements z ps) r
places-raw cs b a (Replace ks v ∷ ps) n at all h k =
    let e : cs ≡ (b ++ ks) ++ (old_cells ps ++ a) = h ∙ simp append_assoc in
    let f : cs ≡ b ++ (ks ++ (old_cells ps ++ a)) = h ∙ simp append_assoc in
    let m : at + length ks ≡ length (b ++ ks) = omega (arith, k, length-append b ks) in
    let r : length (raw_text (b ++ ks)) ≡ length (raw_text b) + length (raw_text ks) = ap length (raw_text-append b ks) ∙ length-append (raw_text b) (raw_text ks) in
    let first : raw_offset cs at ≡ length (raw_text b) = offset-after cs b (ks ++ (old_cells ps ++ a)) at f k in
    let last : raw_offset cs (at + length ks) ≡ length (raw_text b) + length (raw_text ks) = offset-after cs (b ++ ks) (old_cells ps ++ a) (at + length ks) e m ∙ r in
    let rest = places-raw cs (b ++ ks) a ps n (at + length ks) all.1 e m ∙ ap (λ z. replacements z ps) r in
    same_replacement (raw_offset cs at) (raw_offset cs (at + length ks)) (length (raw_text b)) (length (raw_text b) + length (raw_text ks)) n _ _ first last rest
    ∙ ap (λ z. record { start = length (raw_text b); end = length (raw_text b) + length (raw_text ks); new = z } ∷ replacements (length (raw_text b) + length (raw_text ks)) ps) (sym all.0)

-- ---- the joined text

-- a part of a text, cut in two
slice-split : (t : List ℕ) (d m e : ℕ) → d ≤ m → m ≤ e → slice_range t d e ≡ slice_range t d m ++ slice_range t m e
slice-split t d m e h k =
    let n : e - d ≡ (m - d) + (e - m) = omega (arith, h, k) in
    let w : d + (m - d) ≡ m = omega (arith, h) in
    ap (λ z. take z (drop d t)) n
    ∙ (take-add (m - d) (e - m) (drop d t) ∙ ap (λ z. take (m - d) (drop d t) ++ take (e - m) z) (drop-drop (m - d) d t ∙ ap (λ z. drop z t) w))

slice-none : (t : List ℕ) (d : ℕ) → slice_range t d d ≡ []
slice-none t d = let n : d - d ≡ 0 = omega arith in ap (λ z. take z (drop d t)) n

-- the joined text of some cells, between those before and those after
joined-part : (b ks a : List Cell) (at : ℕ) → at ≡ length b → slice_range (map joined_byte (b ++ (ks ++ a))) at (at + length ks) ≡ map joined_byte ks
joined-part b ks a at k =
    let J = map joined_byte in
    let whole : J (b ++ (ks ++ a)) ≡ J b ++ (J ks ++ J a) = map-append joined_byte b (ks ++ a) ∙ ap (λ z. J b ++ z) (map-append joined_byte ks a) in
    let s : at ≡ length (J b) = k ∙ sym (length-map b joined_byte) in
    let e : at + length ks ≡ length (J b) + length (J ks) = omega (arith, s, length-map ks joined_byte) in
    ap (λ t. slice_range t at (at + length ks)) whole ∙ slice-at at (at + length ks) (J b) (J ks) (J a) s e

-- the joined text with a text in each place is the joined text of the cells after
pub places-text : (b a : List Cell) (ps : List Piece) (t n : List ℕ) (d at : ℕ) → AllBecome n ps → t ≡ map joined_byte (b ++ (old_cells ps ++ a)) → at ≡ length b → d ≤ at
    → written t d n (places at ps) ++ slice_range t (last_end d (places at ps)) (at + length (old_cells ps)) ≡ slice_range t d at ++ map joined_byte (new_cells ps)
places-text b a [] t n d at all h k l =
    let e : at + 0 ≡ at = omega arith in
    ap (λ z. slice_range t d z) e ∙ sym (append-nil (slice_range t d at))
places-text b a (Keep ks ∷ ps) t n d at all h k l =
    let J = map joined_byte in
    let m = at + length ks in
    let f : t ≡ J (b ++ (ks ++ (old_cells ps ++ a))) = h ∙ ap (λ z. J (b ++ z)) (append_assoc ks (old_cells ps) a) in
    let e : t ≡ J ((b ++ ks) ++ (old_cells ps ++ a)) = f ∙ ap J (sym (append_assoc b ks (old_cells ps ++ a))) in
    let w : m ≡ length (b ++ ks) = omega (arith, k, length-append b ks) in
    let end : at + length (ks ++ old_cells ps) ≡ m + length (old_cells ps) = omega (arith, length-append ks (old_cells ps)) in
    let P = places m ps in
    let I = places-text (b ++ ks) a ps t n d m all e w (omega (arith, l)) in
    let part : slice_range t at m ≡ J ks = ap (λ z. slice_range z at m) f ∙ joined-part b ks (old_cells ps ++ a) at k in
    let front : slice_range t d m ≡ slice_range t d at ++ J ks = slice-split t d at m l (omega arith) ∙ ap (λ z. slice_range t d at ++ z) part in
    ap (λ z. written t d n P ++ slice_range t (last_end d P) z) end
    ∙ (I ∙ (ap (λ z. z ++ J (new_cells ps)) front ∙ (append_assoc (slice_range t d at) (J ks) (J (new_cells ps)) ∙ ap (λ z. slice_range t d at ++ z) (sym (map-append joined_byte ks (new_cells ps))))))
places-text b a (Replace ks v ∷ ps) t n d at all h k l =
    let J = map joined_byte in
    let m = at + length ks in
    let f : t ≡ J (b ++ (ks ++ (old_cells ps ++ a))) = h ∙ ap (λ z. J (b ++ z)) (append_assoc ks (old_cells ps) a) in
    let e : t ≡ J ((b ++ ks) ++ (old_cells ps ++ a)) = f ∙ ap J (sym (append_assoc b ks (old_cells ps ++ a))) in
    let w : m ≡ length (b ++ ks) = omega (arith, k, length-append b ks) in
    let end : at + length (ks ++ old_cells ps) ≡ m + length (old_cells ps) = omega (arith, length-append ks (old_cells ps)) in
    let P = places m ps in
    let S = slice_range t d at in
    let W = written t m n P in
    let R = slice_range t (last_end m P) (m + length (old_cells ps)) in
    let I : W ++ R ≡ J (new_cells ps) = places-text (b ++ ks) a ps t n m m all.1 e w (omega arith) ∙ ap (λ z. z ++ J (new_cells ps)) (slice-none t m) in
    let new : J (map Byte v ++ new_cells ps) ≡ n ++ J (new_cells ps) = map-append joined_byte (map Byte v) (new_cells ps) ∙ ap (λ z. z ++ J (new_cells ps)) (bytes-joined v ∙ all.0) in
    ap (λ z. (S ++ (n ++ W)) ++ slice_range t (last_end m P) z) end
    ∙ (append_assoc S (n ++ W) R ∙ ap (λ z. S ++ z) (append_assoc n W R ∙ (ap (λ z. n ++ z) I ∙ sym new)))
