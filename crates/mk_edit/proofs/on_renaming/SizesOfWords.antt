-- How many words of a line a rename replaces, and how many bytes they have: few.
use Rattle.std.proofs.Common.{◌≡◌, refl, sym, ap, ◌∙◌, subst, arith, ℕ, suc, ◌+◌, ◌-◌, ◌*◌, ◌≤◌, List, [], ◌∷◌, ◌++◌, drop, length, length-append, Option, Some, None}
use Rattle.std.proofs.lemmas.List.{length-map, length-take, length-drop}
use Rattle.mk_lines.specs.PhysicalLines.{without_line_end}
use Rattle.mk_lines.specs.Cells.{Cell, joined_byte, joined_text, line_cells}
use Rattle.mk_lines.specs.Pieces.{Replacement, old_bytes, replacements}
use Rattle.mk_lines.specs.Ranges.{text_at, word_token_ranges, word_ranges}
use Rattle.mk_lines.specs.Units.{units}
use Rattle.mk_lines.specs.Words.{tokens}
use Rattle.mk_lines.specs.declared.split.Span.{Span}
use Rattle.mk_lines.proofs.StoredLemmas.{length-raw_text}
use Rattle.mk_lines.proofs.UnitWalkLemmas.{words_left-count}
use Rattle.mk_lines.proofs.on_cells.CellLemmas.{cells-are_cells}
use Rattle.mk_class.specs.ClassTable.{class_of}
use Rattle.mk_class.specs.ClassedLines.{ClassedLine}
use Rattle.mk_tree.specs.LocatedLines.{LocatedLine, located_line, size_of}
use Rattle.mk_edit_language.specs.Lengths.{bytes_taken, bytes_put}
use Rattle.mk_edit_language.specs.RisingSpans.{Rise}
use Rattle.mk_edit_language.specs.WordPieces.{renamed_pieces}
use Rattle.mk_edit_language.proofs.on_edits.RisingSpanLemmas.{Rise-pieces}
use Rattle.mk_edit_language.proofs.on_lines.ClassParts.{cells-within}
use Rattle.mk_edit_parts.specs.LocatedParts.{AreEachClassed, IsClassed}
use Rattle.mk_edit_parts.specs.RenamedRanges.{before_ranges, bytes_in, part_ranges, range_in, ranges_in, renamed_ranges, word_parts}
use Rattle.mk_edit.specs.RenameTargetEffects.{replaced_bytes, replaced_words}
use Rattle.mk_edit_parts.proofs.on_renaming.PieceRanges.{replacing}
use Rattle.mk_edit_parts.proofs.on_renaming.LinePieces.{line-begins, line-pieces}

-- ---- how many there are

-- a text has no more words than bytes
words-count : (t : List ℕ) → length (word_ranges t) ≤ length t
words-count t =
    let e : length t - length t ≡ 0 = omega arith in
    subst (λ n. length (word_token_ranges n (tokens (λ b. b) (units (λ b. b) t))) ≤ length t) e (words_left-count (length t) t)

before-count : (o : Option Span) (ss : List Span) → length (before_ranges o ss) ≤ suc (length ss)
before-count None ss = omega arith
before-count (Some s) ss = omega arith

-- at most as many of some words are the old one as there are words
ranges-count : (cs : List Cell) (at : ℕ) (o : List ℕ) (ws : List Span) → length (ranges_in cs at o ws) ≤ length ws
ranges-count cs at o [] = omega arith
ranges-count cs at o (w ∷ ws) = omega (arith, before-count (range_in cs at o w) (ranges_in cs at o ws), ranges-count cs at o ws)

-- a part of a text is no longer than the text
part-short : (t : List ℕ) (p : Span) → length (text_at t p) ≤ length t
part-short t p = omega (arith, length-take (p.end - p.start) (drop p.start t), length-drop p.start t)

pub part-count : (cs : List Cell) (o : List ℕ) (p : Span) → length (part_ranges cs o p) ≤ length cs
part-count cs o p =
    omega (arith, ranges-count cs p.start o (word_ranges (text_at (joined_text cs) p)), words-count (text_at (joined_text cs) p), part-short (joined_text cs) p, length-map cs joined_byte)

-- a line has no more cells than bytes
pub cells-few : (l : List ℕ) → length (line_cells l) ≤ length l
cells-few l = let cs = line_cells l in omega (arith, length-raw_text cs (cells-are_cells (without_line_end l)), cells-within l)

-- each of the three parts of a line has no more words than the line has bytes
pub renamed-few : (o : List ℕ) (l : LocatedLine) → length (renamed_ranges o l) ≤ 3 * length l.bytes
renamed-few o l =
    let cs = line_cells l.bytes in
    let p = word_parts l.class in
    let T = part_ranges cs o p.targets in
    let N = part_ranges cs o p.normal in
    let O = part_ranges cs o p.order_only in
    let n = cells-few l.bytes in
    omega (arith, n, length-append T (N ++ O), length-append N O, part-count cs o p.targets, part-count cs o p.normal, part-count cs o p.order_only)

-- ---- how many bytes they have

-- replacements that rise take out no more than stands between
pub taken-within : (a b : ℕ) (rs : List Replacement) → Rise a b rs → a + bytes_taken rs ≤ b
taken-within a b [] h = omega (arith, h)
taken-within a b (r ∷ rs) h = omega (arith, h.0, h.1, taken-within r.end b rs h.2)

-- what is taken out and put in for ranges
pub taken-replacing : (n : List ℕ) (ss : List Span) → bytes_taken (replacing n ss) ≡ bytes_in ss
taken-replacing n [] = refl
taken-replacing n (s ∷ ss) = ap (λ z. (s.end - s.start) + z) (taken-replacing n ss)

pub put-replacing : (n : List ℕ) (ss : List Span) → bytes_put (replacing n ss) ≡ length ss * length n
put-replacing n [] = omega arith
put-replacing n (s ∷ ss) = omega (arith, put-replacing n ss)

-- the ranges of a line have at most as many bytes as the line
few-bytes : (o : List ℕ) (l : LocatedLine) → IsClassed l → bytes_in (renamed_ranges o l) ≤ length l.bytes
few-bytes o l h =
    let d : ClassedLine = record { bytes = l.bytes; class = class_of h.context l.bytes } in
    let ps = renamed_pieces o o d.class in
    let B = line-begins h.context d o o refl in
    let e : located_line d ≡ l = ap (λ k. record { bytes = l.bytes; class = k }) (sym h.class_is) in
    let t : bytes_in (renamed_ranges o (located_line d)) ≡ bytes_taken (replacements 0 ps) = sym (taken-replacing o (renamed_ranges o (located_line d))) ∙ ap bytes_taken (line-pieces h.context d o o refl) in
    let k : bytes_in (renamed_ranges o (located_line d)) ≤ length l.bytes =
    omega (arith, t, taken-within 0 (0 + length (old_bytes ps)) (replacements 0 ps) (Rise-pieces 0 ps), ap length B.is, length-append (old_bytes ps) B.rest) in
    subst (λ z. bytes_in (renamed_ranges o z) ≤ length l.bytes) e k

-- ---- the lines of a document

pub all-words : (o : List ℕ) (ls : List LocatedLine) → replaced_words o ls ≤ 3 * size_of ls
all-words o [] = omega arith
all-words o (l ∷ ls) = omega (arith, renamed-few o l, all-words o ls)

pub all-bytes : (o : List ℕ) (ls : List LocatedLine) → AreEachClassed ls → replaced_bytes o ls ≤ size_of ls
all-bytes o [] h = omega arith
all-bytes o (l ∷ ls) h = omega (arith, few-bytes o l h.0, all-bytes o ls h.1)
