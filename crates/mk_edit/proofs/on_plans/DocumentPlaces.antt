-- Places of a document, for code that reads a line there.
use Rattle.std.proofs.Common.{◌≡◌, ap, subst, arith, ℕ, zero, suc, ◌+◌, ◌-◌, ◌<◌, ◌≤◌, List, [], ◌∷◌, ◌++◌, length, take, Some}
use Rattle.std.specs.Prelude.{slice_get}
use Rattle.mk_lines.specs.Limits.{max_text}
use Rattle.mk_lines.specs.LogicalLines.{logical_lines}
use Rattle.mk_lines.specs.LogicalLines.{has_no_line_end}
use Rattle.mk_lines.specs.PhysicalLines.{line_end, line_end_bytes, file_line_end}
use Rattle.mk_class.specs.Contexts.{Context, start, context_after}
use Rattle.mk_class.specs.ClassedLines.{ClassedLine, classed_lines, context_after_lines}
use Rattle.mk_tree.specs.LocatedLines.{LocatedLine, located_text}
use Rattle.mk_tree.specs.LocatedLines.{size_of, last_line, bytes_of_line}
use Rattle.mk_tree.proofs.AdmissionLemmas.{defines_after-few}
use Rattle.mk_tree.proofs.Ends.{last-index}
use Rattle.mk_edit.specs.PlannedMoves.{is_unended, last_bytes_ended, CanInsert}
use Rattle.mk_edit_parts.specs.Found.{IsPlaceOf}
use Rattle.mk_edit_parts.specs.declared.seek.Found.{Found}

-- ---- open defines

-- each of some lines opens at most one
pub defines-few : (c : Context) (ls : List ClassedLine) → (context_after_lines c ls).defines ≤ c.defines + length ls
defines-few c [] = omega arith
defines-few c (l ∷ ls) = omega (arith, defines-few (context_after c l.class) ls, defines_after-few c.defines l.class)

take-few : {X : Type 0} (n : ℕ) (xs : List X) → length (take n xs) ≤ n
take-few zero xs = omega arith
take-few (suc n) [] = omega arith
take-few (suc n) (x ∷ xs) = omega (arith, take-few n xs)

-- few defines are open at a place whose number is low
pub place-defines : (ls : List LocatedLine) (place : Found) → IsPlaceOf ls place → place.at < max_text → place.context.defines < max_text
place-defines ls place p low =
    let above = take place.at (classed_lines (located_text ls)) in
    subst (λ (c : Context). c.defines < max_text) p (omega (arith, defines-few start above, take-few place.at (classed_lines (located_text ls))))

-- a line has some bytes
pub some-line : (m : List ℕ) → logical_lines m ≡ m ∷ [] → 0 < length m
some-line [] h = absurd (let g : [] ≡ [] ∷ [] = h in cc)
some-line (b ∷ m) h = omega arith

-- the number of a place at which a line can be put in is low
pub insert-low : (ls : List LocatedLine) (at : ℕ) (m : List ℕ) → CanInsert ls at m → length ls ≤ size_of ls → at < max_text
insert-low ls at m C few = omega (arith, C.in_range, C.fits, some-line m C.line.one, few)

-- ---- the last line

pub last-unended : (ls : List LocatedLine) (l : LocatedLine) (at : ℕ) → 0 < length ls → at ≡ length ls - 1 → Some l ≡ slice_get ls at → is_unended (last_line ls) ≡ has_no_line_end (line_end l.bytes)
last-unended ls l at some e h = ap is_unended (last-index ls l at some e h)

pub last-ended_bytes : (ls : List LocatedLine) (l : LocatedLine) (at : ℕ) → 0 < length ls → at ≡ length ls - 1 → Some l ≡ slice_get ls at → last_bytes_ended ls ≡ l.bytes ++ line_end_bytes (file_line_end (located_text ls))
last-ended_bytes ls l at some e h = ap (λ o. bytes_of_line o ++ line_end_bytes (file_line_end (located_text ls))) (last-index ls l at some e h)
