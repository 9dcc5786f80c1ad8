-- The causes of refusal that the place of a new line decides, by their tests on a document.
use Rattle.std.proofs.Common.{◌≡◌, refl, sym, ap, ◌∙◌, arith, ℕ, ◌+◌, ◌-◌, ◌==◌, ◌&&◌, ◌||◌, Bool, true, false, not, cond, List, [], ◌∷◌, ◌++◌, subst, length, take, drop, length-append, Option, Some, None}
use Rattle.std.specs.Prelude.{nat_lt, Err}
use Rattle.std.proofs.lemmas.List.{take-append-drop}
use Rattle.std.proofs.Math.Bool.{or-false}
use Rattle.mk_lines.specs.Limits.{max_text}
use Rattle.mk_lines.specs.LogicalLines.{is_open}
use Rattle.mk_lines.specs.PhysicalLines.{line_end_bytes, file_line_end}
use Rattle.mk_lines.specs.Pieces.{replaced}
use Rattle.mk_lines.specs.declared.ends.End.{End}
use Rattle.mk_class.specs.Contexts.{Context}
use Rattle.mk_class.specs.ListTests.{is_empty, last_passes}
use Rattle.mk_class.specs.RecipePrefix.{is_prefix_led}
use Rattle.mk_class.specs.ClassedLines.{ClassedLine, classed_lines}
use Rattle.mk_tree.specs.Documents.{IsFaithful, text_of, context_of}
use Rattle.mk_tree.specs.Leaning.{is_same_flag, leans}
use Rattle.mk_tree.specs.NewLineEnds.{missing_line_end, lacks_line_end}
use Rattle.mk_tree.specs.LocatedLines.{LocatedLine, located_text, size_of, last_line}
use Rattle.mk_tree.proofs.on_changes.Sizes.{size_of-text}
use Rattle.mk_edit_language.specs.AddressCauses.{begins_new_line, misplaced}
use Rattle.mk_edit_language.specs.Addresses.{address, place_address}
use Rattle.mk_edit_language.specs.Causes.{or_else, where_holds}
use Rattle.mk_edit_language.specs.Edits.{Place, Top, Bottom, BeforeVar, AfterVar, AfterLastVar, BeforeRule, AfterRule, NewLine, Edit, AddLine, AddRecipe}
use Rattle.mk_edit_language.specs.LineCauses.{follows_open_line, open_line, open_define, open_define_at, flag_below_new, new_line_leans, removal_leans, switched_leans, leaning, too_long}
use Rattle.mk_edit_language.specs.NewLines.{new_text, new_line_span}
use Rattle.mk_edit_language.specs.EditSpans.{spans_of, where_found}
use Rattle.mk_edit_language.specs.Stretches.{Stretch, bottom, insertion, removal, place_found}
use Rattle.mk_edit_language.specs.Refusals.{spans}
use Rattle.mk_edit_language.specs.RuleCauses.{straddles_at}
use Rattle.mk_edit_language.specs.declared.refusal.Refusal.{Refusal}
use Rattle.mk_edit_language.specs.declared.refusal.Refusal.TheVariants.{RecipePrefix, Straddles, OpenLine, OpenDefine, Leans, TooLong}
use Rattle.mk_edit.specs.Insertions.{IsDecidedByPlace, IsOfNewLine, IsOfPlace, is_bottom, is_at_bottom, is_open_line, ends_length}
use Rattle.mk_edit_parts.specs.NewPlaces.{IsInsertedAt}
use Rattle.mk_edit_parts.specs.LineRanges.{is_led_first_located}
use Rattle.mk_edit.specs.PlannedMoves.{is_unended, follows_unended}
use Rattle.mk_edit_parts.specs.declared.seek.Found.{Found}
use Rattle.mk_edit_parts.specs.Found.{IsAddressed, IsMeant}
use Rattle.mk_edit_parts.proofs.CauseLemmas.{holds, passed}
use Rattle.mk_edit_parts.proofs.on_finding.LeanLemmas.{led_first-located}
use Rattle.mk_edit.proofs.on_new_lines.InsertionLemmas.{place-in, follows-last}
use Rattle.mk_edit.proofs.on_plans.CausePlans.{addressed-own}
use Rattle.mk_edit.proofs.on_recipes.OwnCauses.{own-refused}

-- if the new line of a place does not begin with the prefix, its place decides
decided-line : (p : Place) (l : NewLine) (ls : List LocatedLine) (f place : Found) → straddles_at (classed_lines (located_text ls)) p ≡ None → IsAddressed (AddLine p l) ls f
    → IsInsertedAt ls (insertion (classed_lines (located_text ls)) (AddLine p l)) place → is_prefix_led place.context.prefix (new_text place.context.prefix (AddLine p l)) ≡ false → IsDecidedByPlace (located_text ls) (AddLine p l)
decided-line p l ls f place o A I k =
    let cs = classed_lines (located_text ls) in
    let e = AddLine p l in
    let led : misplaced cs e ≡ None =
    ap (λ c. or_else c (where_holds (begins_new_line e (insertion cs e)) RecipePrefix)) o
    ∙ (ap (λ (o : Option Stretch). where_holds (begins_new_line e o) RecipePrefix) I.stretch_is
    ∙ (ap (λ (c : Context). where_holds (is_prefix_led c.prefix (new_text c.prefix e)) RecipePrefix) I.context_is ∙ ap (λ b. where_holds b RecipePrefix) k)) in
    addressed-own e ls f _ A refl (passed (misplaced cs e) _ _ led refl)

pub decided-there : (p : Place) (e : Edit) (ls : List LocatedLine) (f place : Found) → IsOfPlace p e → straddles_at (classed_lines (located_text ls)) p ≡ None → IsAddressed e ls f → IsInsertedAt ls (insertion (classed_lines (located_text ls)) e) place
    → is_prefix_led place.context.prefix (new_text place.context.prefix e) ≡ false → IsDecidedByPlace (located_text ls) e
decided-there p e ls f place o s A I k =
    subst (λ z. IsDecidedByPlace (located_text ls) z) (sym o.is)
    (decided-line p o.line ls f place s (subst (λ z. IsAddressed z ls f) o.is A) (subst (λ z. IsInsertedAt ls (insertion (classed_lines (located_text ls)) z) place) o.is I)
    (ap (λ z. is_prefix_led place.context.prefix (new_text place.context.prefix z)) (sym o.is) ∙ k))

-- where an edit applies that puts a line in at a place, and where its line goes
pub placed : {p : Place} {e : Edit} {ls : List LocatedLine} {f : Found} → IsOfPlace p e → IsAddressed e ls f → IsMeant (classed_lines (located_text ls)) (place_address p) f
placed {ls = ls} {f = f} o A = subst (λ z. IsMeant (classed_lines (located_text ls)) (address z) f) o.is A.meant

pub placed-in : {p : Place} {e : Edit} {ls : List LocatedLine} {g : Found} → IsOfPlace p e → IsInsertedAt ls (place_found (classed_lines (located_text ls)) p) g → IsInsertedAt ls (insertion (classed_lines (located_text ls)) e) g
placed-in {ls = ls} {g = g} o I = subst (λ z. IsInsertedAt ls (insertion (classed_lines (located_text ls)) z) g) (sym o.is) I

-- a rule is split after which the new line would go, or its line begins with the prefix
misplaced-first : (e : Edit) (ls : List LocatedLine) (f : Found) (r : Refusal) → IsAddressed e ls f → misplaced (classed_lines (located_text ls)) e ≡ Some r → spans (located_text ls) e ≡ Err r
misplaced-first e ls f r A h = own-refused e ls f r A (holds (misplaced (classed_lines (located_text ls)) e) _ r h)

pub split-there : (p : Place) (e : Edit) (ls : List LocatedLine) (f : Found) → IsOfPlace p e → straddles_at (classed_lines (located_text ls)) p ≡ Some Straddles → IsAddressed e ls f → spans (located_text ls) e ≡ Err Straddles
split-there p e ls f o s A =
    let cs = classed_lines (located_text ls) in
    misplaced-first e ls f Straddles A (ap (misplaced cs) o.is ∙ ap (λ c. or_else c (where_holds (begins_new_line (AddLine p o.line) (insertion cs (AddLine p o.line))) RecipePrefix)) s)

-- ---- OpenLine

pub open_line-at : (ls : List LocatedLine) (e : Edit) (f : Found) (b : Bool) → IsFaithful ls → IsInsertedAt ls (insertion (classed_lines (located_text ls)) e) f
    → b ≡ ((f.at == length ls) && is_open_line (last_line ls)) → open_line (classed_lines (located_text ls)) e ≡ where_holds b OpenLine
open_line-at ls e f b h N k =
    let s = N.stretch in
    let I = place-in ls (insertion (classed_lines (located_text ls)) e) f h N in
    let same : b ≡ (is_empty s.below && last_passes (λ l. is_open l.bytes) s.above) =
    k
    ∙ (ap (λ (z : List LocatedLine). (f.at == length z) && is_open_line (last_line z)) I.shown
    ∙ follows-last is_open_line (λ l. is_open l.bytes) refl (λ l. refl) s.above s.below f.at N.place_is) in
    ap (λ o. where_holds (follows_open_line o) OpenLine) N.stretch_is ∙ ap (λ z. where_holds z OpenLine) (sym same)

-- ---- OpenDefine

bottom-context : (ls : List ClassedLine) (p : Place) (s : Stretch) → is_bottom p ≡ true → place_found ls p ≡ Some s → ls ≡ s.above
bottom-context ls Bottom s b h = let k : bottom ls ≡ s = cc in ap (λ (z : Stretch). z.above) k
bottom-context ls (BeforeVar nth n) s b h = absurd (cc)
bottom-context ls (AfterVar nth n) s b h = absurd (cc)
bottom-context ls (BeforeRule nth g) s b h = absurd (cc)
bottom-context ls Top s b h = absurd (cc)
bottom-context ls (AfterLastVar n) s b h = absurd (cc)
bottom-context ls (AfterRule nth g) s b h = absurd (cc)

define-at : (ls : List ClassedLine) (p : Place) (n : ℕ) → (is_bottom p ≡ true → (context_of ls).defines ≡ n) → open_define_at ls p ≡ where_holds (is_bottom p && nat_lt 0 n) OpenDefine
define-at ls Bottom n h = ap (λ m. where_holds (nat_lt 0 m) OpenDefine) (h refl)
define-at ls (BeforeVar nth x) n h = refl
define-at ls (AfterVar nth x) n h = refl
define-at ls (BeforeRule nth g) n h = refl
define-at ls Top n h = refl
define-at ls (AfterLastVar x) n h = refl
define-at ls (AfterRule nth g) n h = refl

place-defines : (ls : List LocatedLine) (p : Place) (f : Found) → IsInsertedAt ls (place_found (classed_lines (located_text ls)) p) f → is_bottom p ≡ true
    → (context_of (classed_lines (located_text ls))).defines ≡ f.context.defines
place-defines ls p f N b =
    let k : classed_lines (located_text ls) ≡ N.stretch.above = bottom-context (classed_lines (located_text ls)) p N.stretch b N.stretch_is in
    ap (λ (z : List ClassedLine). (context_of z).defines) k ∙ ap (λ c. c.defines) N.context_is

pub open_define-at : (ls : List LocatedLine) (e : Edit) (f : Found) (b : Bool) → IsOfNewLine e → IsInsertedAt ls (insertion (classed_lines (located_text ls)) e) f
    → b ≡ (is_at_bottom e && nat_lt 0 f.context.defines) → open_define (classed_lines (located_text ls)) e ≡ where_holds b OpenDefine
open_define-at ls (AddLine p l) f b u N k = define-at (classed_lines (located_text ls)) p f.context.defines (place-defines ls p f N) ∙ ap (λ z. where_holds z OpenDefine) (sym k)
open_define-at ls (AddRecipe nth g p c) f b u N k = ap (λ z. where_holds z OpenDefine) (sym k)
open_define-at ls e f b u N k = absurd u

-- ---- Leans

none-removed : (ls : List ClassedLine) (e : Edit) → IsOfNewLine e → removal ls e ≡ None
none-removed ls (AddLine p l) u = refl
none-removed ls (AddRecipe nth g p c) u = refl
none-removed ls e u = absurd u

none-switched : (ls : List ClassedLine) (e : Edit) → IsOfNewLine e → switched_leans ls e ≡ false
none-switched ls (AddLine p l) u = refl
none-switched ls (AddRecipe nth g p c) u = refl
none-switched ls e u = absurd u

pub leaning-at : (ls : List LocatedLine) (e : Edit) (f : Found) (b : Bool) → IsFaithful ls → IsOfNewLine e → IsInsertedAt ls (insertion (classed_lines (located_text ls)) e) f
    → b ≡ (not (is_same_flag (flag_below_new e) f.context.flag) && is_led_first_located f.context.prefix (drop f.at ls))
    → leaning (classed_lines (located_text ls)) e ≡ where_holds b Leans
leaning-at ls e f b h u N k =
    let cls = classed_lines (located_text ls) in
    let s = N.stretch in
    let I = place-in ls (insertion cls e) f h N in
    let led : is_led_first_located f.context.prefix (drop f.at ls) ≡ _ = ap (is_led_first_located f.context.prefix) I.below_is ∙ led_first-located f.context.prefix s.below in
    let new : new_line_leans e (insertion cls e) ≡ leans f.context.prefix (flag_below_new e) f.context.flag s.below =
    ap (new_line_leans e) N.stretch_is ∙ ap (λ c. leans c.prefix (flag_below_new e) c.flag s.below) N.context_is in
    let same : b ≡ leans f.context.prefix (flag_below_new e) f.context.flag s.below = k ∙ ap (λ z. not (is_same_flag (flag_below_new e) f.context.flag) && z) led in
    ap (λ b. where_holds (b || (new_line_leans e (insertion cls e) || removal_leans (removal cls e))) Leans) (none-switched cls e u)
    ∙ (ap (λ o. where_holds (new_line_leans e (insertion cls e) || removal_leans o) Leans) (none-removed cls e u)
    ∙ (ap (λ z. where_holds z Leans) (or-false (new_line_leans e (insertion cls e))) ∙ ap (λ z. where_holds z Leans) (new ∙ sym same)))

-- ---- TooLong

new-spans : (t : List ℕ) (ls : List ClassedLine) (e : Edit) → IsOfNewLine e → spans_of t ls e ≡ where_found (new_line_span t e) (insertion ls e)
new-spans t ls (AddLine p l) u = refl
new-spans t ls (AddRecipe nth g p c) u = refl
new-spans t ls e u = absurd u

put-length : (at : ℕ) (t new : List ℕ) → length (replaced 0 t (record { start = at; end = at; new = new } ∷ [])) ≡ length t + length new
put-length at t new =
    let n = at - 0 in
    omega (arith, length-append (take n t) (new ++ drop n t), length-append new (drop n t), ap length (take-append-drop n t), length-append (take n t) (drop n t))

missing-length : (e : End) (above below : List ClassedLine) (b : Bool) → b ≡ (is_empty below && last_passes lacks_line_end above)
    → length (missing_line_end e above below) + length (line_end_bytes e) ≡ (cond b (length (line_end_bytes e) + length (line_end_bytes e)) (length (line_end_bytes e)))
missing-length e above below b k =
    ap (λ z. length (cond z (line_end_bytes e) []) + length (line_end_bytes e)) (sym k) ∙ go b
  where
    go : (b : Bool) → length (cond b (line_end_bytes e) []) + length (line_end_bytes e) ≡ cond b (length (line_end_bytes e) + length (line_end_bytes e)) (length (line_end_bytes e))
    go true = refl
    go false = omega arith

pub too_long-at : (ls : List LocatedLine) (e : Edit) (f : Found) (b : Bool) → IsFaithful ls → IsOfNewLine e → IsInsertedAt ls (insertion (classed_lines (located_text ls)) e) f
    → ((prefix : ℕ) → b ≡ nat_lt max_text (size_of ls + (length (new_text prefix e) + ends_length ls f.at)))
    → too_long (located_text ls) (spans_of (located_text ls) (classed_lines (located_text ls)) e) ≡ where_holds b TooLong
too_long-at ls e f b h u N k =
    let t = located_text ls in
    let cls = classed_lines t in
    let s = N.stretch in
    let end = file_line_end t in
    let I = place-in ls (insertion cls e) f h N in
    let p = (context_of s.above).prefix in
    let spans : spans_of t cls e ≡ new_line_span t e s = new-spans t cls e u ∙ ap (where_found (new_line_span t e)) N.stretch_is in
    let follows : follows_unended ls f.at ≡ (is_empty s.below && last_passes lacks_line_end s.above) =
    ap (λ (z : List LocatedLine). (f.at == length z) && is_unended (last_line z)) I.shown ∙ follows-last is_unended lacks_line_end refl (λ l. refl) s.above s.below f.at N.place_is in
    let ends = missing-length end s.above s.below (follows_unended ls f.at) follows in
    let put = put-length (length (text_of s.above)) t (missing_line_end end s.above s.below ++ (new_text p e ++ line_end_bytes end)) in
    let total : length (replaced 0 t (new_line_span t e s)) ≡ size_of ls + (length (new_text p e) + ends_length ls f.at) =
    omega (arith, put, length-append (missing_line_end end s.above s.below) (new_text p e ++ line_end_bytes end), length-append (new_text p e) (line_end_bytes end), ends, size_of-text ls) in
    ap (λ z. too_long t z) spans ∙ (ap (λ n. where_holds (nat_lt max_text n) TooLong) total ∙ ap (λ z. where_holds z TooLong) (sym (k p)))
