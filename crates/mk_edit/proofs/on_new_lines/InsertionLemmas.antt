-- A document between the lines of which a new one goes, and its last line.
use Rattle.std.proofs.Common.{◌≡◌, sym, ap, ◌∙◌, arith, ℕ, ◌≤◌, ◌==◌, ◌&&◌, Bool, true, false, List, [], ◌∷◌, ◌++◌, length, take, drop, length-append, Option, Some, None, eq-eqb}
use Rattle.std.proofs.lemmas.List.{append-nil, map-append, length-map}
use Rattle.std.proofs.lemmas.Bool.{ne_eqb}
use Rattle.std.proofs.Math.Seq.{take-append_seam, drop-append_seam}
use Rattle.mk_class.specs.ListTests.{is_empty, last_passes}
use Rattle.mk_class.specs.ClassedLines.{ClassedLine, classed_lines}
use Rattle.mk_tree.specs.Documents.{IsFaithful}
use Rattle.mk_tree.specs.LocatedLines.{LocatedLine, located_line, located_lines, located_text, last_line}
use Rattle.mk_edit_language.specs.Stretches.{Stretch}
use Rattle.mk_edit_parts.specs.NewPlaces.{IsInsertedAt}
use Rattle.mk_edit_parts.specs.declared.seek.Found.{Found}

-- ---- the document there

-- what is known of a document between the lines of which a new one goes
pub record IsPlaceIn (ls : List LocatedLine) (s : Stretch) (f : Found) : Type 0 where
  pub shown : ls ≡ located_lines (s.above ++ s.below)
  pub within : f.at ≤ length ls
  pub above_is : take f.at (classed_lines (located_text ls)) ≡ s.above
  pub below_is : drop f.at ls ≡ located_lines s.below

pub place-in : (ls : List LocatedLine) (o : Option Stretch) (f : Found) → IsFaithful ls → (N : IsInsertedAt ls o f) → IsPlaceIn ls N.stretch f
place-in ls o f h N =
    let s = N.stretch in
    let A = located_lines s.above in
    let shown : ls ≡ located_lines (s.above ++ s.below) = h ∙ ap located_lines N.whole in
    let apart : ls ≡ A ++ located_lines s.below = shown ∙ map-append located_line s.above s.below in
    let n : f.at ≡ length A = sym N.place_is ∙ sym (length-map s.above located_line) in
    record {
      shown = shown;
      within = omega (arith, n, ap length apart, length-append A (located_lines s.below));
      above_is = ap (take f.at) N.whole ∙ (ap (λ m. take m (s.above ++ s.below)) (sym N.place_is) ∙ take-append_seam s.above s.below);
      below_is = ap (drop f.at) apart ∙ (ap (λ m. drop m (A ++ located_lines s.below)) n ∙ drop-append_seam A (located_lines s.below));
    }

-- ---- the last line

last-shown : (f : Option LocatedLine → Bool) (q : ClassedLine → Bool) → f None ≡ false → ((l : ClassedLine) → f (Some (located_line l)) ≡ q l) → (above : List ClassedLine)
    → f (last_line (located_lines above)) ≡ last_passes q above
last-shown f q none some [] = none
last-shown f q none some (l ∷ []) = some l
last-shown f q none some (l ∷ k ∷ ls) = last-shown f q none some (k ∷ ls)

-- a line at a place follows a last line of some kind if no line is below the place and the last line above it is of this kind
pub follows-last : (f : Option LocatedLine → Bool) (q : ClassedLine → Bool) → f None ≡ false → ((l : ClassedLine) → f (Some (located_line l)) ≡ q l) → (above below : List ClassedLine) (at : ℕ)
    → length above ≡ at → ((at == length (located_lines (above ++ below))) && f (last_line (located_lines (above ++ below)))) ≡ (is_empty below && last_passes q above)
follows-last f q none some above (b ∷ below) at n =
    let not_last : (at == length (located_lines (above ++ b ∷ below))) ≡ false =
    ne_eqb at (length (located_lines (above ++ b ∷ below))) (λ k. omega (arith, n, k, length-map (above ++ b ∷ below) located_line, length-append above (b ∷ below))) in
    ap (λ z. z && f (last_line (located_lines (above ++ b ∷ below)))) not_last
follows-last f q none some above [] at n =
    let whole : above ++ [] ≡ above = append-nil above in
    let end : (at == length (located_lines above)) ≡ true = eq-eqb at (length (located_lines above)) (sym n ∙ sym (length-map above located_line)) in
    ap (λ (z : List ClassedLine). (at == length (located_lines z)) && f (last_line (located_lines z))) whole
    ∙ (ap (λ z. z && f (last_line (located_lines above))) end ∙ last-shown f q none some above)
