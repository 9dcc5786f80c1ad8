-- The line of a document where an edit applies, with those above and below it.
use Rattle.std.proofs.Common.{◌≡◌, sym, ap, ◌∙◌, subst, arith, ℕ, zero, suc, ◌+◌, ◌<◌, List, [], ◌∷◌, ◌++◌, length, length-append, take, drop, Some}
use Rattle.std.specs.Prelude.{slice_get}
use Rattle.std.proofs.lemmas.List.{map-append, length-map}
use Rattle.std.proofs.Math.Seq.{take-append_seam, drop-append_seam, drop-append-add}
use Rattle.mk_class.specs.ClassTable.{class_of}
use Rattle.mk_class.specs.Contexts.{Context, context_after, context_after_located}
use Rattle.mk_class.specs.ClassedLines.{classed_lines}
use Rattle.mk_tree.specs.Documents.{IsFaithful, context_of}
use Rattle.mk_tree.specs.LocatedLines.{LocatedLine, located_line, located_lines, located_text}
use Rattle.mk_tree.proofs.on_documents.LinesInText.{line-in_text, context_of-last}
use Rattle.mk_tree.specs.LineTexts.{StandingLine}
use Rattle.mk_tree.proofs.Indices.{get_middle}
use Rattle.mk_edit_language.specs.Addresses.{Address}
use Rattle.mk_edit_language.proofs.on_edits.EditPlaces.{found-spot}
use Rattle.mk_edit_parts.specs.Found.{IsFoundAt}
use Rattle.mk_edit_parts.specs.LocatedParts.{AreEachClassed, IsClassed}
use Rattle.mk_edit_parts.specs.declared.seek.Found.{Found}
use Rattle.mk_edit_parts.proofs.on_finding.SeekLemmas.{faithful-each}

-- what is known of a document where a line of its text stands
pub record IsLineAt (ls : List LocatedLine) (f : Found) (s : StandingLine) : Type 0 where
  -- the lines of the text
  pub lines : classed_lines (located_text ls) ≡ s.above ++ s.line ∷ s.below
  -- the lines of the document
  pub shown : ls ≡ located_lines s.above ++ located_line s.line ∷ located_lines s.below
  pub place_is : f.at ≡ length (located_lines s.above)
  pub within : f.at < length ls
  pub line_is : slice_get ls f.at ≡ Some (located_line s.line)
  pub above_is : take f.at ls ≡ located_lines s.above
  pub from_is : drop f.at ls ≡ located_line s.line ∷ located_lines s.below
  pub below_is : drop (f.at + 1) ls ≡ located_lines s.below
  -- the context of the line, its class there, and the context after it
  pub context_is : context_of s.above ≡ f.context
  pub class_is : class_of f.context s.line.bytes ≡ s.line.class
  pub next_is : context_of (s.above ++ s.line ∷ []) ≡ context_after_located f.context (located_line s.line).class

pub line-at : (ls : List LocatedLine) (a : Address) (f : Found) → IsFaithful ls → (F : IsFoundAt (classed_lines (located_text ls)) a f) → IsLineAt ls f F.spot
line-at ls a f h F =
    let s = F.spot in
    let A = located_lines s.above in
    let B = located_lines s.below in
    let w : classed_lines (located_text ls) ≡ s.above ++ s.line ∷ s.below = found-spot (classed_lines (located_text ls)) a s F.found_is in
    let shown : ls ≡ A ++ located_line s.line ∷ B = h ∙ (ap located_lines w ∙ map-append located_line s.above (s.line ∷ s.below)) in
    let n : f.at ≡ length A = sym F.place_is ∙ sym (length-map s.above located_line) in
    let L = line-in_text (located_text ls) s.above s.line s.below w in
    record {
      lines = w;
      shown = shown;
      place_is = n;
      within = omega (arith, ap length shown, length-append A (located_line s.line ∷ B), n);
      line_is = ap (λ z. slice_get z f.at) shown ∙ get_middle A B (located_line s.line) f.at n;
      above_is = ap (take f.at) shown ∙ (ap (λ n. take n (A ++ located_line s.line ∷ B)) n ∙ take-append_seam A (located_line s.line ∷ B));
      from_is = ap (drop f.at) shown ∙ (ap (λ n. drop n (A ++ located_line s.line ∷ B)) n ∙ drop-append_seam A (located_line s.line ∷ B));
      below_is = ap (drop (f.at + 1)) shown ∙ (ap (λ n. drop (n + 1) (A ++ located_line s.line ∷ B)) n ∙ drop-append-add A (located_line s.line ∷ B) 1);
      context_is = F.context_is;
      class_is = ap (λ (c : Context). class_of c s.line.bytes) (sym F.context_is) ∙ L.class;
      next_is = context_of-last s.above s.line ∙ ap (λ (c : Context). context_after c s.line.class) F.context_is;
    }

-- the line at a place of a document has a class of its bytes
pub classed-at : (ls : List LocatedLine) (at : ℕ) (l : LocatedLine) → AreEachClassed ls → Some l ≡ slice_get ls at → IsClassed l
classed-at [] at l h k = absurd (cc)
classed-at (x ∷ ls) zero l h k = let e : x ≡ l = cc in subst IsClassed e h.0
classed-at (x ∷ ls) (suc at) l h k = classed-at ls at l h.1 k

pub faithful-at : (ls : List LocatedLine) (at : ℕ) (l : LocatedLine) → IsFaithful ls → Some l ≡ slice_get ls at → IsClassed l
faithful-at ls at l h k = classed-at ls at l (faithful-each ls h) k
