-- Places further down in a document, and the line end of its text.
use Rattle.std.proofs.Common.{◌≡◌, refl, sym, ap, ◌∙◌, subst, ℕ, zero, suc, ◌+◌, List, [], ◌∷◌, take, drop, Option, Some, None}
use Rattle.std.specs.Prelude.{slice_get}
use Rattle.mk_lines.specs.LogicalLines.{logical_lines}
use Rattle.mk_lines.specs.PhysicalLines.{file_line_end}
use Rattle.mk_lines.proofs.on_lines.FileEndLemmas.{file_line_end-first}
use Rattle.mk_class.specs.Contexts.{Context, start, context_after_located, Admits}
use Rattle.mk_class.specs.ClassedLines.{classed}
use Rattle.mk_tree.specs.Documents.{IsFaithful}
use Rattle.mk_tree.specs.LocatedLines.{LocatedLine, located_lines, located_text, context_after_located_lines}
use Rattle.mk_tree.specs.Admissions.{AreAdmitted}
use Rattle.mk_tree.proofs.AdmissionLemmas.{context-faithful, context_after-step}
use Rattle.mk_tree.proofs.Indices.{drop_get}
use Rattle.mk_edit_parts.specs.Found.{IsPlaceOf}
use Rattle.mk_edit_parts.specs.declared.seek.Found.{Found}

-- ---- the line end of the file

-- the first line of a faithful document tells it
pub file_line_end-at_first : (ls : List LocatedLine) (l : LocatedLine) → IsFaithful ls → Some l ≡ slice_get ls 0 → file_line_end (located_text ls) ≡ file_line_end l.bytes
file_line_end-at_first ls l f h = go (logical_lines (located_text ls)) refl
  where
    go : (lines : List (List ℕ)) → logical_lines (located_text ls) ≡ lines → file_line_end (located_text ls) ≡ file_line_end l.bytes
    go [] e =
        let none : ls ≡ [] = f ∙ ap (λ z. located_lines (classed start z)) e in
        absurd (let q : Some l ≡ None = h ∙ ap (λ z. slice_get z 0) none in cc)
    go (first ∷ rest) e =
        let shown : ls ≡ located_lines (classed start (first ∷ rest)) = f ∙ ap (λ z. located_lines (classed start z)) e in
        let same : Some l.bytes ≡ Some first = ap bytes_shown (h ∙ ap (λ z. slice_get z 0) shown) in
        let bytes : l.bytes ≡ first = cc in
        file_line_end-first (located_text ls) first rest e ∙ ap file_line_end (sym bytes)
      where
        bytes_shown : Option LocatedLine → Option (List ℕ)
        bytes_shown None = None
        bytes_shown (Some k) = Some k.bytes

-- ---- a walk from a place on

pub admitted-from : (c : Context) (ls : List LocatedLine) (n : ℕ) → AreAdmitted c ls → AreAdmitted (context_after_located_lines c (take n ls)) (drop n ls)
admitted-from c ls zero h = h
admitted-from c [] (suc n) h = tt
admitted-from c (l ∷ ls) (suc n) h = admitted-from (context_after_located c l.class) ls n h.1

-- the context at a place is that of the lines above it, as the document shows them, and the lines from it on are admitted in it
pub record IsWalkedTo (ls : List LocatedLine) (at : ℕ) (c : Context) : Type 0 where
  pub context_is : c ≡ context_after_located_lines start (take at ls)
  pub admitted : AreAdmitted c (drop at ls)

pub place-walked : (ls : List LocatedLine) (place : Found) → IsFaithful ls → IsPlaceOf ls place → AreAdmitted start ls → IsWalkedTo ls place.at place.context
place-walked ls place f p h =
    let same : place.context ≡ context_after_located_lines start (take place.at ls) = sym p ∙ sym (context-faithful ls place.at f) in
    record { context_is = same; admitted = subst (λ (c : Context). AreAdmitted c (drop place.at ls)) (sym same) (admitted-from start ls place.at h) }

-- the line at a place, which is admitted there, leads to the next place
pub record IsStepped (ls : List LocatedLine) (at : ℕ) (c : Context) (l : LocatedLine) : Type 0 where
  pub admits : Admits c l.class
  pub next : IsWalkedTo ls (at + 1) (context_after_located c l.class)

pub place-stepped : (ls : List LocatedLine) (at : ℕ) (c : Context) (l : LocatedLine) → c ≡ context_after_located_lines start (take at ls) → AreAdmitted c (drop at ls) → Some l ≡ slice_get ls at → IsStepped ls at c l
place-stepped ls at c l e a h =
    let d = drop_get ls at l h in
    let A = subst (AreAdmitted c) d a in
    record {
      admits = A.0;
      next = record { context_is = ap (λ (k : Context). context_after_located k l.class) e ∙ sym (context_after-step start ls (drop (at + 1) ls) l at d); admitted = A.1 };
    }
