-- A recipe line with a text in the place of each occurrence of another: the ranges that the code finds are those of the line's pieces.
use Rattle.std.proofs.Common.{◌≡◌, refl, sym, ap, ◌∙◌, subst, arith, ℕ, zero, suc, ◌+◌, ◌-◌, ◌≤◌, Bool, true, false, cond, List, [], ◌∷◌, ◌++◌, map, take, drop, length, length-append, append_assoc}
use Rattle.std.specs.List.{list_any}
use Rattle.std.specs.Prelude.{nat_lt, slice_range}
use Rattle.std.proofs.lemmas.List.{append-nil, length-drop, length-map, take-map}
use Rattle.memchr.specs.Find.{matches, matches_from}
use Rattle.mk_lines.specs.Cells.{Byte, raw_text}
use Rattle.mk_lines.specs.PhysicalLines.{line_end, line_end_bytes, without_line_end}
use Rattle.mk_lines.specs.Pieces.{Keep, Replace, old_bytes, new_bytes, replaced, replacements}
use Rattle.mk_lines.specs.declared.split.Span.{Span}
use Rattle.mk_lines.proofs.on_cells.CellLemmas.{raw_text-bytes}
use Rattle.mk_lines.proofs.on_lines.LineEndLemmas.{without_line_end-line_end}
use Rattle.mk_lines.proofs.on_lists.PieceLemmas.{raw_text-old_cells, replaced-pieces}
use Rattle.mk_edit_language.specs.EachLine.{recipe_after, recipe_pieces, recipe_text, recipe_text_pieces}
use Rattle.mk_edit_language.specs.LineChanges.{begins_with, substituted}
use Rattle.mk_edit_language.specs.RisingSpans.{Rise}
use Rattle.mk_edit_language.specs.WordPieces.{is_replaced}
use Rattle.mk_edit_language.proofs.on_edits.RisingSpanLemmas.{Rise-pieces, Rise-until}
use Rattle.mk_edit_language.proofs.on_values.SetValueLemmas.{bytes-joined}
use Rattle.mk_edit_parts.specs.LineChangePlaces.{text_places}
use Rattle.mk_edit_parts.specs.RecipeChanges.{line_end_length, recipe_ranges, stated_text}
use Rattle.mk_edit_parts.specs.RenamedRanges.{span}
use Rattle.mk_edit_parts.specs.RenamedTexts.{AreApart, rewritten, written}
use Rattle.mk_edit_parts.specs.WordCuts.{last_end}
use Rattle.mk_edit_parts.proofs.on_line_changes.PiecePlaces.{places}
use Rattle.mk_edit_parts.proofs.on_line_changes.WordsAndTexts.{texts-old, texts-places}
use Rattle.mk_edit_parts.proofs.on_prerequisites.WordRangeLemmas.{slice-at}
use Rattle.mk_edit_parts.proofs.on_renaming.PieceRanges.{replacing}
use Rattle.mk_edit_parts.proofs.on_renaming.WrittenLemmas.{apart-bytes, apart-rise, replaced-some, replacing-number, written-more, written-replaced}

-- ---- ranges and replacements

-- bytes by themselves are as many as their raw text
plain-width : (k : ℕ) (x : List ℕ) → length (raw_text (take k (map Byte x))) ≡ length (take k (map Byte x))
plain-width k x =
    let e : take k (map Byte x) ≡ map Byte (take k x) = take-map Byte k x in
    ap (λ z. length (raw_text z)) e ∙ (ap length (raw_text-bytes (take k x)) ∙ (sym (length-map (take k x) Byte) ∙ ap length (sym e)))

-- the places of bytes that are replaced are where they are replaced
plain-replacing : (f n : List ℕ) (k : ℕ) (x : List ℕ) (at : ℕ) → replacing n (places at (substituted f n k (map Byte x))) ≡ replacements at (substituted f n k (map Byte x))
plain-replacing f n k [] at = refl
plain-replacing f n (suc k) (b ∷ x) at = plain-replacing f n k x at
plain-replacing f n zero (b ∷ x) at =
    go (begins_with f (Byte b ∷ map Byte x)) (plain-width (length f) (b ∷ x)) (λ m. plain-replacing f n (length f - 1) x m) (plain-replacing f n zero x (at + 1))
  where
    go : (c : Bool) → length (raw_text (take (length f) (Byte b ∷ map Byte x))) ≡ length (take (length f) (Byte b ∷ map Byte x))
        → ((m : ℕ) → replacing n (places m (substituted f n (length f - 1) (map Byte x))) ≡ replacements m (substituted f n (length f - 1) (map Byte x)))
        → replacing n (places (at + 1) (substituted f n zero (map Byte x))) ≡ replacements (at + 1) (substituted f n zero (map Byte x))
        → replacing n (places at (cond c (Replace (take (length f) (Byte b ∷ map Byte x)) n ∷ substituted f n (length f - 1) (map Byte x)) (Keep (Byte b ∷ []) ∷ substituted f n zero (map Byte x))))
        ≡ replacements at (cond c (Replace (take (length f) (Byte b ∷ map Byte x)) n ∷ substituted f n (length f - 1) (map Byte x)) (Keep (Byte b ∷ []) ∷ substituted f n zero (map Byte x)))
    go true w more none =
        let ps = substituted f n (length f - 1) (map Byte x) in
        let m = length (take (length f) (Byte b ∷ map Byte x)) in
        ap (λ rs. record { start = at; end = at + m; new = n } ∷ rs) (more (at + m)) ∙ ap (λ z. record { start = at; end = at + z; new = n } ∷ replacements (at + z) ps) (sym w)
    go false w more none = none

-- the first byte of a line is one byte, if it has one; and a line without it has no text
text-start : (f t l : List ℕ) → replacements 1 (recipe_text_pieces f t l) ≡ replacements 0 (recipe_pieces f t l)
text-start f t [] = refl
text-start f t (b ∷ l) = refl

module _ (f : List ℕ) (some : 1 ≤ length f) where
  -- the ranges of the occurrences are the places of the pieces
  ranges-places : (t l : List ℕ) → recipe_ranges f l ≡ places 1 (recipe_text_pieces f t l)
  ranges-places t l =
      let x = recipe_text l in
      let cells = map Byte x in
      let all : length x + 1 - 0 ≡ length cells + 1 = omega (arith, length-map x Byte) in
      ap (λ z. text_places 1 (length f) (matches_from z f 0 0 (length x + 1 - 0))) (sym (bytes-joined x))
      ∙ texts-places f t [] cells 0 1 0 (length x + 1 - 0) some (omega arith) refl all

  pub recipe-pieces : (t l : List ℕ) → replacing t (recipe_ranges f l) ≡ replacements 0 (recipe_pieces f t l)
  recipe-pieces t l = ap (replacing t) (ranges-places t l) ∙ (plain-replacing f t 0 (recipe_text l) 1 ∙ text-start f t l)

  -- whether the line is changed
  pub recipe-changed : (t l : List ℕ) → nat_lt 0 (length (recipe_ranges f l)) ≡ list_any is_replaced (recipe_pieces f t l)
  recipe-changed t l =
      ap (nat_lt 0) (sym (replacing-number t (recipe_ranges f l)) ∙ ap length (recipe-pieces t l)) ∙ replaced-some 0 (recipe_pieces f t l)

  -- ---- the line after

  -- the bytes of the pieces
  text-old : (t l : List ℕ) → old_bytes (recipe_text_pieces f t l) ≡ recipe_text l
  text-old t l =
      let x = recipe_text l in
      sym (raw_text-old_cells (recipe_text_pieces f t l)) ∙ (ap raw_text (texts-old f t 0 (map Byte x) some) ∙ raw_text-bytes x)

  pieces-old : (t l : List ℕ) → old_bytes (recipe_pieces f t l) ≡ take 1 l ++ recipe_text l
  pieces-old t l = ap (λ z. z ++ old_bytes (recipe_text_pieces f t l)) (raw_text-bytes (take 1 l)) ∙ ap (λ z. take 1 l ++ z) (text-old t l)

  -- they are at most those of the line
  text-width : (l : List ℕ) → length (take 1 l ++ recipe_text l) ≤ length l
  text-width [] = omega arith
  text-width (b ∷ l) =
      let x = length-drop 1 (without_line_end (b ∷ l)) in
      let y = length-append (without_line_end (b ∷ l)) (line_end_bytes (line_end (b ∷ l))) in
      let z : length (without_line_end (b ∷ l) ++ line_end_bytes (line_end (b ∷ l))) ≡ length (b ∷ l) = ap length (without_line_end-line_end (b ∷ l)) in
      omega (arith, x, y, z)

  pub recipe-apart : (l : List ℕ) → AreApart 0 (length l) (recipe_ranges f l)
  recipe-apart l =
      let ps = recipe_pieces f [] l in
      let few : 0 + length (old_bytes ps) ≤ length l = omega (arith, ap length (pieces-old [] l), text-width l) in
      let r = Rise-until 0 (0 + length (old_bytes ps)) (length l) (replacements 0 ps) (Rise-pieces 0 ps) few in
      apart-rise 0 (length l) [] (recipe_ranges f l) (subst (Rise 0 (length l)) (sym (recipe-pieces [] l)) r)

  pub recipe-rewritten : (t l : List ℕ) → recipe_after f t l ≡ rewritten l t (recipe_ranges f l)
  recipe-rewritten t l = ap (replaced 0 l) (sym (recipe-pieces t l)) ∙ sym (written-replaced l 0 t (recipe_ranges f l) (recipe-apart l))

  -- ---- what it is said to have

  -- where a text occurs, the line has one
  some-text : (l : List ℕ) → 1 ≤ length (recipe_ranges f l) → 1 ≤ length (recipe_text l)
  some-text l h = go (recipe_text l) (subst (λ ss. 1 ≤ length ss) (ranges-places [] l) h)
    where
      go : (x : List ℕ) → 1 ≤ length (places 1 (substituted f [] 0 (map Byte x))) → 1 ≤ length x
      go [] h = h
      go (b ∷ x) h = omega arith

  -- a line that has a text is its first byte, the text and the line end
  parted : (w e l : List ℕ) → w ++ e ≡ l → 1 ≤ length (drop 1 w) → (take 1 l ++ drop 1 w) ++ e ≡ l
  parted [] e l h k = absurd (omega (arith, k))
  parted (b ∷ w) e l h k = ap (λ z. (take 1 z ++ w) ++ e) (sym h) ∙ h

  one-first : (w e l : List ℕ) → w ++ e ≡ l → 1 ≤ length (drop 1 w) → length (take 1 l) ≡ 1
  one-first [] e l h k = absurd (omega (arith, k))
  one-first (b ∷ w) e l h k = ap (λ z. length (take 1 z)) (sym h)

  -- the new line is its first byte, the new text and the old line end
  recipe-made : (t l : List ℕ) → 1 ≤ length (recipe_ranges f l)
      → recipe_after f t l ≡ take 1 l ++ (new_bytes (recipe_text_pieces f t l) ++ line_end_bytes (line_end l))
  recipe-made t l h =
      let ps = recipe_pieces f t l in
      let e = line_end_bytes (line_end l) in
      let whole : old_bytes ps ++ e ≡ l =
      ap (λ z. z ++ e) (pieces-old t l) ∙ parted (without_line_end l) e l (without_line_end-line_end l) (some-text l h) in
      ap (λ z. replaced 0 z (replacements 0 ps)) (sym whole)
      ∙ (replaced-pieces [] ps e
      ∙ (append_assoc (raw_text (map Byte (take 1 l))) (new_bytes (recipe_text_pieces f t l)) e ∙ ap (λ z. z ++ (new_bytes (recipe_text_pieces f t l) ++ e)) (raw_text-bytes (take 1 l))))

  pub stated-made : (t l : List ℕ) → 1 ≤ length (recipe_ranges f l) → stated_text l (recipe_after f t l) ≡ new_bytes (recipe_text_pieces f t l)
  stated-made t l h =
      let v = new_bytes (recipe_text_pieces f t l) in
      let e = line_end_bytes (line_end l) in
      let m = recipe_after f t l in
      let made = recipe-made t l h in
      let first = one-first (without_line_end l) e l (without_line_end-line_end l) (some-text l h) in
      let old : length (without_line_end l) + length e ≡ length l = sym (length-append (without_line_end l) e) ∙ ap length (without_line_end-line_end l) in
      let new : length m ≡ length (take 1 l) + (length v + length e) = ap length made ∙ (length-append (take 1 l) (v ++ e) ∙ ap (λ z. length (take 1 l) + z) (length-append v e)) in
      let end : length m - line_end_length l ≡ length (take 1 l) + length v = omega (arith, old, new) in
      ap (λ z. slice_range z 1 (length m - line_end_length l)) made ∙ slice-at 1 (length m - line_end_length l) (take 1 l) v e (sym first) end

-- ---- the line after, written one occurrence after the other

-- the occurrences ahead begin at these offsets of the text after the first byte; the line is done up to this offset
pub record IsWrittenTo (line new : List ℕ) (all : List Span) (count : ℕ) (ahead : List ℕ) (done : ℕ) (bytes : List ℕ) : Type 0 where
  pub apart : AreApart done (length line) (text_places 1 count ahead)
  pub end : last_end done (text_places 1 count ahead) ≡ last_end 0 all
  pub whole : bytes ++ written line done new (text_places 1 count ahead) ≡ written line 0 new all

pub written-start : (f : List ℕ) → 1 ≤ length f → (line new ahead bytes : List ℕ) → ahead ≡ matches (recipe_text line) f 0 → bytes ≡ [] → IsWrittenTo line new (recipe_ranges f line) (length f) ahead 0 bytes
written-start f some line new ahead bytes e none = record {
  apart = subst (λ is. AreApart 0 (length line) (text_places 1 (length f) is)) (sym e) (recipe-apart f some line);
  end = ap (λ is. last_end 0 (text_places 1 (length f) is)) e;
  whole = ap (λ z. z ++ written line 0 new (text_places 1 (length f) ahead)) none ∙ ap (λ is. written line 0 new (text_places 1 (length f) is)) e;
}

-- the first occurrence ahead stands within the line, behind what is done
pub written-within : (line new : List ℕ) (all : List Span) (n : ℕ) (ahead : List ℕ) (done : ℕ) (bytes : List ℕ) (i : ℕ) (is : List ℕ) → ahead ≡ i ∷ is → IsWrittenTo line new all n ahead done bytes
    → (done ≤ i + 1) × (i + 1 + n ≤ length line)
written-within line new all n ahead done bytes i is e w =
    let a : AreApart done (length line) (text_places 1 n (i ∷ is)) = subst (λ z. AreApart done (length line) (text_places 1 n z)) e w.apart in
    let b = apart-bytes (1 + i + n) (length line) (text_places 1 n is) a.2 in
    (omega (arith, a.0), omega (arith, b))

-- it is written
pub written-next : (line new : List ℕ) (all : List Span) (n : ℕ) (ahead : List ℕ) (done : ℕ) (bytes : List ℕ) (i : ℕ) (is then : List ℕ) → ahead ≡ i ∷ is
    → then ≡ bytes ++ written line done new (span (i + 1) (i + 1 + n) ∷ []) → IsWrittenTo line new all n ahead done bytes → IsWrittenTo line new all n is (i + 1 + n) then
written-next line new all n ahead done bytes i is then e t w =
    let s = span (1 + i) (1 + i + n) in
    let left = text_places 1 n is in
    let same : 1 + i ≡ i + 1 = omega arith in
    let end : 1 + i + n ≡ i + 1 + n = ap (λ z. z + n) same in
    let a : AreApart done (length line) (s ∷ left) = subst (λ z. AreApart done (length line) (text_places 1 n z)) e w.apart in
    let h : last_end done (s ∷ left) ≡ last_end 0 all = ap (λ z. last_end done (text_places 1 n z)) (sym e) ∙ w.end in
    let b : bytes ++ written line done new (s ∷ left) ≡ written line 0 new all = ap (λ z. bytes ++ written line done new (text_places 1 n z)) (sym e) ∙ w.whole in
    let f : then ≡ bytes ++ written line done new (s ∷ []) = t ∙ ap (λ z. bytes ++ written line done new (span z (z + n) ∷ [])) (sym same) in
    record {
      apart = subst (λ z. AreApart z (length line) left) end a.2;
      end = ap (λ z. last_end z left) (sym end) ∙ h;
      whole = ap (λ z. then ++ written line z new left) (sym end) ∙ written-more line (written line 0 new all) bytes then new done s left f b;
    }

-- and then the rest of the line
pub written-all : (f : List ℕ) → 1 ≤ length f → (line new ahead bytes : List ℕ) (done : ℕ) (all : List ℕ) → ahead ≡ [] → all ≡ bytes ++ drop done line
    → IsWrittenTo line new (recipe_ranges f line) (length f) ahead done bytes → all ≡ recipe_after f new line
written-all f some line new ahead bytes done all e t w =
    let ss = recipe_ranges f line in
    let front : bytes ≡ written line 0 new ss = sym (append-nil bytes) ∙ (ap (λ z. bytes ++ written line done new (text_places 1 (length f) z)) (sym e) ∙ w.whole) in
    let at : done ≡ last_end 0 ss = ap (λ z. last_end done (text_places 1 (length f) z)) (sym e) ∙ w.end in
    t ∙ (ap (λ z. z ++ drop done line) front ∙ (ap (λ z. written line 0 new ss ++ drop z line) at ∙ sym (recipe-rewritten f some new line)))
