-- Plans of edits that take lines out: what decides them, and what is planned.
use Rattle.std.proofs.Common.{◌≡◌, refl, sym, ap, ◌∙◌, arith, ℕ, zero, suc, ◌+◌, ◌≤◌, ◌&&◌, List, [], ◌∷◌, ◌++◌, Bool, true, false, not, length, length-append, take, drop, Some, None, option_map, suc-add}
use Rattle.std.specs.Prelude.{Err}
use Rattle.std.proofs.lemmas.Grind.{common_steps}
use Rattle.std.proofs.Math.Seq.{take-append_seam, drop-append_seam, drop-append-add}
use Rattle.mk_lines.specs.Limits.{max_text}
use Rattle.mk_lines.specs.Pieces.{Replacement}
use Rattle.mk_class.specs.Contexts.{Context}
use Rattle.mk_class.specs.ClassedLines.{ClassedLine, classed_lines, is_led_first}
use Rattle.mk_tree.specs.Documents.{IsFaithful, context_of}
use Rattle.mk_tree.specs.Leaning.{is_same_flag, leans}
use Rattle.mk_tree.specs.LocatedLines.{LocatedLine, located_lines, located_text, size_of}
use Rattle.mk_tree.proofs.on_changes.Sizes.{size_of-text}
use Rattle.mk_edit_language.specs.Edits.{OfAssign, Edit, RemoveLines}
use Rattle.mk_edit_language.specs.EditSpans.{spans_of, removed_span, where_found}
use Rattle.mk_edit_language.specs.Stretches.{Stretch, this_line, insertion, removal, touched_by}
use Rattle.mk_edit_language.specs.Addresses.{Variable}
use Rattle.mk_edit_language.specs.Causes.{where_holds}
use Rattle.mk_edit_language.specs.Costs.{cost, size}
use Rattle.mk_edit_language.specs.LineCauses.{leaning, removal_leans, too_long}
use Rattle.mk_edit_language.specs.Lengths.{bytes_put}
use Rattle.mk_edit_language.specs.KeptLines.{edited_bytes}
use Rattle.mk_edit_language.specs.Refusals.{first_cause, spans}
use Rattle.mk_edit_language.specs.declared.refusal.Refusal.TheVariants.{Leans}
use Rattle.mk_edit_language.proofs.on_edits.EditPlaces.{found-spot}
use Rattle.mk_edit_parts.specs.AddressViews.{IsRemoveAssign}
use Rattle.mk_edit_parts.specs.Found.{IsFoundAt, IsAddressed, IsPlaceOf}
use Rattle.mk_edit_parts.specs.LineRanges.{is_led_first_located}
use Rattle.mk_edit.specs.PlannedMoves.{stretch_at}
use Rattle.mk_edit_parts.specs.declared.seek.Found.{Found}
use Rattle.mk_edit_parts.proofs.CauseLemmas.{passed, holds, refused, unrefused}
use Rattle.mk_edit_parts.proofs.on_finding.LeanLemmas.{led_first-located}
use Rattle.mk_edit_parts.proofs.on_new_lines.NewLinePlaces.{found-place}
use Rattle.mk_edit.proofs.on_plans.PlanLemmas.{faithful-length}
use Rattle.mk_edit.proofs.on_plans.LinePlans.{IsTakenOut, lines-taken_out}
use Rattle.mk_edit.proofs.on_plans.CausePlans.{own_causes, addressed-own, removal-read, removal-leaning, never-long}

-- ---- some lines from a place on

take-both : (m n : ℕ) (ls : List ClassedLine) → take m ls ++ take n (drop m ls) ≡ take (m + n) ls
take-both zero n ls = ap (λ k. take k ls) (let e : n ≡ 0 + n = omega arith in e)
take-both (suc m) zero [] = rw (suc-add m 0) refl
take-both (suc m) (suc n) [] = rw (suc-add m (suc n)) refl
take-both (suc m) n (l ∷ ls) = rw (suc-add m n) (ap (λ z. l ∷ z) (take-both m n ls))

drop-located : (n : ℕ) (ls : List ClassedLine) → drop n (located_lines ls) ≡ located_lines (drop n ls)
drop-located zero ls = refl
drop-located (suc n) [] = refl
drop-located (suc n) (l ∷ ls) = drop-located n ls

same_stretch : (a b c d e f : List ClassedLine) → a ≡ d → b ≡ e → c ≡ f → record { above = a; lines = b; below = c } ≡ (let s : Stretch = record { above = d; lines = e; below = f } in s)
same_stretch a b c d e f h k i = rw (h, k, i) refl

pub stretch-is : (ls : List ClassedLine) (s : Stretch) (at count : ℕ) → ls ≡ s.above ++ (s.lines ++ s.below) → length s.above ≡ at → length s.lines ≡ count → stretch_at ls at count ≡ s
stretch-is ls s at count h p n =
    let rest = s.lines ++ s.below in
    let above : take at ls ≡ s.above = ap (take at) h ∙ (ap (λ k. take k (s.above ++ rest)) (sym p) ∙ take-append_seam s.above rest) in
    let from : drop at ls ≡ rest = ap (drop at) h ∙ (ap (λ k. drop k (s.above ++ rest)) (sym p) ∙ drop-append_seam s.above rest) in
    let lines : take count (drop at ls) ≡ s.lines = ap (take count) from ∙ (ap (λ k. take k rest) (sym n) ∙ take-append_seam s.lines s.below) in
    let below : drop (at + count) ls ≡ s.below =
    ap (drop (at + count)) h ∙ (ap (λ k. drop (k + count) (s.above ++ rest)) (sym p) ∙ (drop-append-add s.above rest count ∙ (ap (λ k. drop k rest) (sym n) ∙ drop-append_seam s.lines s.below))) in
    same_stretch (take at ls) (take count (drop at ls)) (drop (at + count) ls) s.above s.lines s.below above lines below

-- whether the lines below lean, by the flags and by the lines of the document
pub leans-said : (ls : List LocatedLine) (place after : Found) (count : ℕ) (b : Bool) → IsFaithful ls → IsPlaceOf ls place → IsPlaceOf ls after → after.at ≡ place.at + count
    → b ≡ (not (is_same_flag place.context.flag after.context.flag) && is_led_first_located place.context.prefix (drop after.at ls))
    → b ≡ removal_leans (Some (stretch_at (classed_lines (located_text ls)) place.at count))
leans-said ls place after count b f p q n h =
    let cs = classed_lines (located_text ls) in
    let s = stretch_at cs place.at count in
    let both : context_of (s.above ++ s.lines) ≡ after.context = ap context_of (take-both place.at count cs) ∙ (ap (λ k. context_of (take k cs)) (sym n) ∙ q) in
    let shown : drop after.at ls ≡ located_lines s.below = ap (drop after.at) f ∙ (drop-located after.at cs ∙ ap (λ k. located_lines (drop k cs)) n) in
    let led : is_led_first_located place.context.prefix (drop after.at ls) ≡ is_led_first place.context.prefix s.below = ap (is_led_first_located place.context.prefix) shown ∙ led_first-located place.context.prefix s.below in
    h
    ∙ (ap (λ z. not (is_same_flag place.context.flag after.context.flag) && z) led
    ∙ (ap (λ (c : Context). leans c.prefix c.flag after.context.flag s.below) (sym p) ∙ ap (λ (c : Context). leans (context_of s.above).prefix (context_of s.above).flag c.flag s.below) (sym both)))

-- ---- edits that take out a number of lines from a place on

-- Only two of the edit's own causes can still hold: Leans and TooLong.
pub record TakesOut (e : Edit) (ls : List LocatedLine) (at count : ℕ) : Type 0 where
  pub removal_is : removal (classed_lines (located_text ls)) e ≡ Some (stretch_at (classed_lines (located_text ls)) at count)
  pub touched_is : touched_by (classed_lines (located_text ls)) e ≡ Some (stretch_at (classed_lines (located_text ls)) at count)
  pub none_put : insertion (classed_lines (located_text ls)) e ≡ None
  pub cost_is : cost (located_text ls) e ≡ 0
  pub size_is : size (located_text ls) e ≡ count
  pub no_bytes : bytes_put (spans_of (located_text ls) (classed_lines (located_text ls)) e) ≡ 0
  pub nothing_left : (rs : List Replacement) → edited_bytes (located_text ls) e (stretch_at (classed_lines (located_text ls)) at count) rs ≡ []
  pub in_range : at + count ≤ length ls
  pub others : first_cause (own_causes (located_text ls) (classed_lines (located_text ls)) e)
      ≡ first_cause (leaning (classed_lines (located_text ls)) e ∷ too_long (located_text ls) (spans_of (located_text ls) (classed_lines (located_text ls)) e) ∷ [])

-- if the lines below lean, the edit is refused
pub taking_out-leans : (e : Edit) (ls : List LocatedLine) (f : Found) (at count : ℕ) (b : Bool) → IsAddressed e ls f → TakesOut e ls at count
    → b ≡ removal_leans (Some (stretch_at (classed_lines (located_text ls)) at count)) → b ≡ true → spans (located_text ls) e ≡ Err Leans
taking_out-leans e ls f at count b A T h k =
    let t = located_text ls in
    let cs = classed_lines t in
    let lean : leaning cs e ≡ Some Leans = removal-leaning cs e (stretch_at cs at count) b T.none_put T.removal_is h ∙ ap (λ q. where_holds q Leans) k in
    refused t e Leans (addressed-own e ls f (Some Leans) A (removal-read cs e _ T.removal_is) (T.others ∙ holds (leaning cs e) _ Leans lean))

length-both : (ls : List ClassedLine) (at count : ℕ) → at + count ≤ length ls → (length (take at ls) ≡ at) × (length (take count (drop at ls)) ≡ count)
length-both ls at count h = (grind (arith, common_steps), grind (arith, common_steps))

-- if the lines below do not lean, the moves are planned
pub taking_out-planned : (e : Edit) (ls : List LocatedLine) (f : Found) (at count : ℕ) (b : Bool) → IsFaithful ls → size_of ls ≤ max_text → IsAddressed e ls f → TakesOut e ls at count
    → b ≡ removal_leans (Some (stretch_at (classed_lines (located_text ls)) at count)) → b ≡ false → IsTakenOut e ls at count
taking_out-planned e ls f at count b g few A T h k =
    let t = located_text ls in
    let cs = classed_lines t in
    let s = stretch_at cs at count in
    let lean : leaning cs e ≡ None = removal-leaning cs e s b T.none_put T.removal_is h ∙ ap (λ q. where_holds q Leans) k in
    let long : too_long t (spans_of t cs e) ≡ None = never-long t e T.no_bytes (omega (arith, size_of-text ls, few)) in
    let spans_are = unrefused t e (addressed-own e ls f None A (removal-read cs e _ T.removal_is) (T.others ∙ passed (leaning cs e) _ None lean (passed (too_long t (spans_of t cs e)) _ None long refl))) in
    let n = length-both cs at count (omega (arith, T.in_range, faithful-length ls cs g refl)) in
    lines-taken_out e ls (spans_of t cs e) s at count g spans_are T.touched_is n.0 n.1 (T.nothing_left (spans_of t cs e)) T.cost_is T.size_is

-- ---- an assignment taken out

pub record IsRemoveAssignAt (e : Edit) (ls : List LocatedLine) (f : Found) : Type 0 where
  pub place : IsPlaceOf ls f
  pub takes : TakesOut e ls f.at 1

pub remove_assign-at : (e : Edit) (ls : List LocatedLine) (f : Found) → IsRemoveAssign e → IsFaithful ls → IsAddressed e ls f → IsRemoveAssignAt e ls f
remove_assign-at (RemoveLines (OfAssign nth n)) ls f u g A =
    let t = located_text ls in
    let cs = classed_lines t in
    let e = RemoveLines (OfAssign nth n) in
    let F : IsFoundAt cs (Variable nth n) f = A.meant in
    let s = F.spot in
    let w : cs ≡ s.above ++ s.line ∷ s.below = found-spot cs (Variable nth n) s F.found_is in
    let here : stretch_at cs f.at 1 ≡ this_line s = stretch-is cs (this_line s) f.at 1 w F.place_is refl in
    let removed : removal cs e ≡ Some (this_line s) = ap (option_map this_line) F.found_is in
    let at : removal cs e ≡ Some (stretch_at cs f.at 1) = removed ∙ ap Some (sym here) in
    record {
      place = found-place ls (Variable nth n) f F;
      takes = record {
        removal_is = at;
        touched_is = at;
        none_put = refl;
        cost_is = refl;
        size_is = refl;
        no_bytes = ap (λ o. bytes_put (where_found removed_span o)) removed;
        nothing_left = λ rs. refl;
        in_range = omega (arith, faithful-length ls (s.above ++ s.line ∷ s.below) g w, length-append s.above (s.line ∷ s.below), F.place_is);
        others = refl;
      };
    }
remove_assign-at e ls f u g A = absurd u
