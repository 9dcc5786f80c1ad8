-- An edit of lines that may stand apart leaves the lines that it does not change, and makes each other line in its place.
use Rattle.std.proofs.Common.{◌≡◌, refl, sym, ap, ◌∙◌, subst, arith, ℕ, List, [], ◌∷◌, map, filter, Bool, true, false, zero, suc, take, length, ◌+◌, ◌≤◌}
use Rattle.std.specs.Str.{bytes_eq}
use Rattle.std.proofs.lemmas.Bool.{eq-eqb}
use Rattle.std.proofs.lemmas.List.{map-id}
use Rattle.std.specs.Prelude.{Ok, if◌then◌else◌}
use Rattle.mk_lines.specs.LogicalLines.{logical_lines}
use Rattle.mk_lines.specs.Cells.{Cell}
use Rattle.mk_lines.specs.Pieces.{Replacement}
use Rattle.mk_class.specs.Classes.{Class}
use Rattle.mk_class.specs.Contexts.{Context, start, context_after}
use Rattle.mk_class.specs.ClassedLines.{ClassedLine, classed_lines, context_after_lines}
use Rattle.mk_tree.specs.Documents.{context_of, most_conditionals}
use Rattle.mk_tree.specs.LineTexts.{bytes_of}
use Rattle.mk_tree.proofs.on_documents.LinesInText.{bytes_of-classed, AreClassed, AreClassed-tail, AreClassed-lines}
use Rattle.mk_tree.specs.EachReplaced.{ReplaceEach}
use Rattle.mk_tree.proofs.on_documents.ConditionalLemmas.{most_conditionals-each_replaced}
use Rattle.mk_edit_language.specs.Edits.{Edit}
use Rattle.mk_edit_language.specs.EditSpans.{spans_in_lines, spans_of}
use Rattle.mk_edit_language.specs.Costs.{cost}
use Rattle.mk_edit_language.specs.Refusals.{spans, text_after}
use Rattle.mk_edit_language.specs.LinesInPlace.{IsInPlace, AreLinesInPlace, differing, StandInLines, AreOthersKeptApart}
use Rattle.mk_edit_language.proofs.on_edits.Accepted.{accepted}
use Rattle.mk_edit_language.proofs.on_edits.LineSpansRise.{RisesInLine, rise-in_line}

-- ---- how many lines differ

same_text-self : (x : List ℕ) → bytes_eq x x ≡ true
same_text-self [] = refl
same_text-self (b ∷ x) = rw (eq-eqb b b refl, same_text-self x) refl

-- a line counts where it is changed, if at all
counted : {M : Type 0} (is_same is_one : Bool) (d : ℕ) (m : M) (ms : List M) → (is_one ≡ false → is_same ≡ true) → d ≤ length ms
    → (if is_same then 0 else 1) + d ≤ length (if is_one then m ∷ ms else ms)
counted true true d m ms h k = omega (arith, k)
counted true false d m ms h k = omega (arith, k)
counted false true d m ms h k = omega (arith, k)
counted false false d m ms h k = let e : false ≡ true = h refl in absurd (cc)

-- at most as many lines differ as are changed
few-differ : {M : Type 0} (f : M → ClassedLine) (p : M → Bool) (P : Context → M → ClassedLine → Type 0) → ((c : Context) (m : M) (l : ClassedLine) → P c m l → p m ≡ false → l ≡ f m)
    → (c : Context) (ms : List M) (ls : List ClassedLine) → AreLinesInPlace f P c ms ls → differing (bytes_of (map f ms)) (bytes_of ls) ≤ length (filter p ms)
few-differ f p P same c [] [] h = omega arith
few-differ f p P same c [] (l ∷ ls) h = absurd h
few-differ f p P same c (m ∷ ms) [] h = absurd h
few-differ f p P same c (m ∷ ms) (l ∷ ls) h =
    let x = (f m).bytes in
    let e : p m ≡ false → bytes_eq x l.bytes ≡ true = λ z. ap (λ (y : ClassedLine). bytes_eq x y.bytes) (same c m l h.0 z) ∙ same_text-self x in
    counted (bytes_eq x l.bytes) (p m) (differing (bytes_of (map f ms)) (bytes_of ls)) m (filter p ms) e (few-differ f p P same (context_after c (f m).class) ms ls h.1)

-- ---- contexts

-- the contexts between lines are as before
contexts-stay : (c : Context) (ls ms : List ClassedLine) → ReplaceEach c ls ms [] → (number : ℕ) → context_after_lines c (take number ms) ≡ context_after_lines c (take number ls)
contexts-stay c ls ms h zero = refl
contexts-stay c [] [] h (suc i) = refl
contexts-stay c [] (m ∷ ms) h (suc i) = absurd h
contexts-stay c (l ∷ ls) [] h (suc i) = absurd h
contexts-stay c (l ∷ ls) (m ∷ ms) h (suc i) = ap (λ (z : Context). context_after_lines z (take i ms)) h.0.context ∙ contexts-stay (context_after c l.class) ls ms h.1 i

-- ---- the law

-- the lines of a text after an edit, each in the place of one line
pub record AreAllInPlace {M : Type 0} (f : M → ClassedLine) (before : List M) (b : M → List ℕ) (P : Context → M → ClassedLine → Type 0) (t : List ℕ) (e : Edit) (after : List ClassedLine) : Type 0 where
  pub are : classed_lines (text_after t e) ≡ after
  pub bytes : bytes_of after ≡ map b before
  pub in_place : AreLinesInPlace f P start before after
  pub each : ReplaceEach start (classed_lines t) after []

pub apart-kept : {M : Type 0} (t : List ℕ) (e : Edit) (rs : List Replacement) (f : M → ClassedLine) (before : List M) (p : M → Bool) (b : M → List ℕ) (P : Context → M → ClassedLine → Type 0) (after : List ClassedLine)
    → map f before ≡ classed_lines t → ((c : Context) (m : M) (l : ClassedLine) → P c m l → p m ≡ false → l ≡ f m) → StandInLines f p 0 before rs → cost t e ≡ length (filter p before)
    → AreAllInPlace f before b P t e after → AreOthersKeptApart e f before p b P t rs
apart-kept t e rs f before p b P after whole same within n M =
    let ls = classed_lines t in
    let texts : logical_lines (text_after t e) ≡ bytes_of after = sym (bytes_of-classed start (logical_lines (text_after t e))) ∙ ap bytes_of M.are in
    let old : bytes_of (map f before) ≡ logical_lines t = ap bytes_of whole ∙ bytes_of-classed start (logical_lines t) in
    let few : differing (bytes_of (map f before)) (bytes_of after) ≤ cost t e = subst (λ z. differing (bytes_of (map f before)) (bytes_of after) ≤ z) (sym n) (few-differ f p P same start before after M.in_place) in
    record {
      lines_before = whole;
      lines = texts ∙ M.bytes;
      in_place = subst (AreLinesInPlace f P start before) (sym M.are) M.in_place;
      contexts = λ i. ap (λ z. context_of (take i z)) M.are ∙ contexts-stay start ls after M.each i;
      few =
          subst (λ z. differing z (logical_lines (text_after t e)) ≤ cost t e) old
          (subst (λ z. differing (bytes_of (map f before)) z ≤ cost t e) (sym texts) few);
      within = within;
      same_depth = ap (most_conditionals 0) M.are ∙ most_conditionals-each_replaced start ls after [] M.each;
    }

-- ---- lines that are changed by their class

-- spans that stand within the lines that are changed
abbrev NoneWhereSame : (p : ClassedLine → Bool) → (f : ℕ → Class Cell → List Replacement) → Type 0
NoneWhereSame p f = (at : ℕ) (l : ClassedLine) → p l ≡ false → f at l.class ≡ []

spans-stand : (p : ClassedLine → Bool) (f : ℕ → Class Cell → List Replacement) → RisesInLine f → NoneWhereSame p f → (c : Context) (at : ℕ) (ls : List ClassedLine) → AreClassed c ls → StandInLines (λ l. l) p at ls (spans_in_lines f at ls)
spans-stand p f g none c at [] h = refl
spans-stand p f g none c at (l ∷ ls) h =
    let m = at + length l.bytes in
    (f at l.class, spans_in_lines f m ls, refl, rise-in_line f g c l ls at h, none at l, spans-stand p f g none (context_after c l.class) m ls (AreClassed-tail c l ls h))

pub lines-kept : (t : List ℕ) (e : Edit) (rs : List Replacement) (p : ClassedLine → Bool) (f : ℕ → Class Cell → List Replacement) (b : ClassedLine → List ℕ) (P : Context → ClassedLine → ClassedLine → Type 0) (after : List ClassedLine)
    → spans t e ≡ Ok rs → ((c : Context) (l m : ClassedLine) → P c l m → IsInPlace p c l m) → RisesInLine f → NoneWhereSame p f → spans_of t (classed_lines t) e ≡ spans_in_lines f 0 (classed_lines t)
    → cost t e ≡ length (filter p (classed_lines t)) → AreAllInPlace (λ l. l) (classed_lines t) b P t e after → AreOthersKeptApart e (λ l. l) (classed_lines t) p b P t rs
lines-kept t e rs p f b P after h is g none s n M =
    let ls = classed_lines t in
    let within : StandInLines (λ l. l) p 0 ls rs =
    subst (StandInLines (λ l. l) p 0 ls) (sym s ∙ (accepted t e rs h).spans_are) (spans-stand p f g none start 0 ls (AreClassed-lines t ls refl)) in
    apart-kept t e rs (λ l. l) ls p b P after (map-id ls) (λ c l m r. (is c l m r).same) within n M
