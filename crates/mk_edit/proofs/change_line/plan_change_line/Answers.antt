use Rattle.std.proofs.Common.{◌≡◌, ◌∙◌, refl, sym, ap, subst, arith, ℕ, Bool, ◌+◌, ◌*◌, ◌++◌, List, [], true, false, length, Option, None, inl, inr}
use Rattle.std.specs.Prelude.{IfSome, nat_lt}
use Rattle.std.proofs.lemmas.List.{append-nil}
use Rattle.mk_lines.specs.Cells.{Cell, joined_byte, line_cells}
use Rattle.mk_lines.specs.Limits.{max_text}
use Rattle.mk_lines.specs.declared.split.Span.{Span}
use Rattle.mk_class.specs.LocatedClasses.{located_class}
use Rattle.mk_class.specs.declared.assignment.Assignment as offsets
use Rattle.mk_tree.specs.LocatedLines.{LocatedLine, text_of_line, located_text, size_of}
use Rattle.mk_tree.specs.Trees.{line_view}
use Rattle.mk_edit_language.specs.Costs.{cost}
use Rattle.mk_edit_language.specs.Edits.{LineChange}
use Rattle.mk_edit_language.specs.EditViews.{edit_of}
use Rattle.mk_edit_language.specs.declared.refusal.Refusal.{Refusal}
use Rattle.mk_edit_language.specs.declared.refusal.Refusal.TheVariants.{NoMemory, TooLong}
use Rattle.mk_edit_parts.specs.LineChangePlaces.{change_places, raw_ranges, new_text, rewrite_view, separator_bytes, separator_place}
use Rattle.mk_edit_parts.specs.RenamedRanges.{IsWithin, bytes_in}
use Rattle.mk_edit.specs.LineChangePlans.{first_of_words}
use Rattle.mk_edit.specs.ValueChangeLines.{value_text_located}
use Rattle.mk_edit.proofs.on_line_changes.ChangeLinePlans.{IsLineChangeOf, IsLeft, change_line-of, exchanged, handed-on, left-refused, read-anew}
use Rattle.mk_edit.proofs.on_line_changes.LinesMade.{can-note, has-assignment, separator-within}
use Rattle.mk_edit.proofs.on_plans.CausePlans.{long-as}
use Rattle.mk_edit.proofs.on_plans.DocumentPlaces.{place-defines}
use Rattle.mk_edit.proofs.on_plans.PlanLemmas.{refused-first, moves-made}
use Rattle.mk_edit.proofs.on_plans.RangePlans.{line-short}
use Rattle.mk_edit.proofs.change_line.plan_change_line.Given.{Over}
use Rattle.mk_edit.proofs.change_line.plan_change_line.Goals.{In_ok-found, After-first_of_words, After-is_too_long}
use Rattle.mk_edit.proofs.change_line.plan_change_line.Goals as goal

-- the places of the change, and the text that goes there
abbrev all : LineChange → LocatedLine → offsets.Assignment → List Span
all c l at = change_places c (text_of_line l) at

abbrev made : LineChange → LocatedLine → offsets.Assignment → List ℕ
made c l at = new_text c (separator_bytes (line_cells l.bytes) (separator_place c (text_of_line l) at)) (value_text_located l)

change : (g : Over) (c : In_ok-found g) → IsLineChangeOf (rewrite_view c.args.change) (edit_of c.args.edit.now) c.args.doc.now c.in_ok-found.found
change g c = change_line-of _ _ _ _ c.requires.faithful c.requires.edit c.in_ok-found.ensures.found

pub line-line-requires : goal.line-line-requires
line-line-requires g c = (change g (goal.at.line-line-requires g c).In_ok-found).within

pub assignment_of-assignment-requires : goal.assignment_of-assignment-requires
assignment_of-assignment-requires g c =
    let O = (change g (goal.at.assignment_of-assignment-requires g c).In_ok-found).own (line_view c.line-line.result.now) c.line-line.ensures in
    record { offsets = _; at = record { prefix = None; class_is = O.is.class_is } }

pub places_of-places-requires-clause-assignment : goal.places_of-places-requires-clause-assignment
places_of-places-requires-clause-assignment g c =
    let l = line_view c.line-line.result.now in
    let O = (change g (goal.at.places_of-places-requires-clause-assignment g c).In_ok-found).own l c.line-line.ensures in
    has-assignment c.in_ok-found.found.context l O.assigned c.assignment_of-assignment.result O.is c.assignment_of-assignment.ensures

pub places_of-places-requires-clause-can : goal.places_of-places-requires-clause-can
places_of-places-requires-clause-can g c =
    let l = line_view c.line-line.result.now in
    let U = change g (goal.at.places_of-places-requires-clause-can g c).In_ok-found in
    let O = U.own l c.line-line.ensures in
    can-note (rewrite_view c.args.change) c.in_ok-found.found.context l O.assigned c.assignment_of-assignment.result O.is c.assignment_of-assignment.ensures U.sought (omega (arith, line-short c.args.doc.now c.in_ok-found.found.at l c.line-line.ensures, c.size-size.ensures.few))

pub value_text-requires : goal.value_text-requires
value_text-requires g c =
    let O = (change g (goal.at.value_text-requires g c).In_ok-found).own (line_view c.line-line.result.now) c.line-line.ensures in
    record { context = c.in_ok-found.found.context; class_is = O.is.class_is ∙ ap (located_class joined_byte) (sym O.is.here) }

pub separator_place-separator-requires : goal.separator_place-separator-requires
separator_place-separator-requires g c =
    let l = line_view c.line-line.result.now in
    let O = (change g (goal.at.separator_place-separator-requires g c).In_ok-found).own l c.line-line.ensures in
    has-assignment c.in_ok-found.found.context l O.assigned c.assignment_of-assignment.result O.is c.assignment_of-assignment.ensures

pub separator_bytes-requires : goal.separator_bytes-requires
separator_bytes-requires g c =
    let l = line_view c.line-line.result.now in
    let O = (change g (goal.at.separator_bytes-requires g c).In_ok-found).own l c.line-line.ensures in
    subst (λ o. IfSome o (IsWithin (length (line_cells l.bytes)))) (sym c.separator_place-separator.ensures)
    (separator-within (rewrite_view c.args.change) c.in_ok-found.found.context l O.assigned c.assignment_of-assignment.result O.is c.assignment_of-assignment.ensures)

pub value_text-requires-2 : goal.value_text-requires-2
value_text-requires-2 g c =
    let O = (change g (goal.at.value_text-requires-2 g c).In_ok-found).own (line_view c.line-line.result.now) c.line-line.ensures in
    record { context = c.in_ok-found.found.context; class_is = O.is.class_is ∙ ap (located_class joined_byte) (sym O.is.here) }

pub is_too_long-requires-clause-few : goal.is_too_long-requires-clause-few
is_too_long-requires-clause-few g c =
    let l = line_view c.line-line.result.now in
    let s = (change g (goal.at.is_too_long-requires-clause-few g c).In_ok-found).short l c.assignment_of-assignment.result c.line-line.ensures c.assignment_of-assignment.ensures in
    omega (arith, s, c.places_of-places.ensures.bytes, line-short c.args.doc.now c.in_ok-found.found.at l c.line-line.ensures, c.size-size.ensures.few)

-- ---- what the code counts

plus-none : (n m : ℕ) → n + 0 ≡ m → n ≡ m
plus-none n m h = omega (arith, h)

words-by : (r o : Option Refusal) (d : LineChange) (k m : ℕ) (v w : List ℕ) → r ≡ first_of_words d k v → k ≡ m → v ≡ w → r ≡ o → first_of_words d m w ≡ o
words-by r o d k m v w h k-is v-is e = sym (h ∙ (ap (λ z. first_of_words d z v) k-is ∙ ap (first_of_words d m) v-is)) ∙ e

-- what the words of the value decide
words : (g : Over) (c : After-first_of_words g) (o : Option Refusal) → c.first_of_words.result ≡ o
    → first_of_words (rewrite_view c.args.change) (length (all (rewrite_view c.args.change) (line_view c.line-line.result.now) c.assignment_of-assignment.result)) (value_text_located (line_view c.line-line.result.now)) ≡ o
words g c o e =
    let d = rewrite_view c.args.change in
    let l = line_view c.line-line.result.now in
    words-by c.first_of_words.result o d c.places_of-places.result.count (length (all d l c.assignment_of-assignment.result)) c.value_text.result.now (value_text_located l) c.first_of_words.ensures (plus-none _ _ c.places_of-places.ensures.count) c.value_text.ensures e

length-by : (d : LineChange) (n : ℕ) (cells : List Cell) (p q : Option Span) (s v w : List ℕ) → n ≡ length (new_text d s v) → s ≡ separator_bytes cells p → p ≡ q → v ≡ w → n ≡ length (new_text d (separator_bytes cells q) w)
length-by d n cells p q s v w h s-is p-is v-is =
    h ∙ (ap (λ z. length (new_text d z v)) (s-is ∙ ap (separator_bytes cells) p-is) ∙ ap (λ z. length (new_text d (separator_bytes cells q) z)) v-is)

-- whether the text would be too long
long : (g : Over) (c : After-is_too_long g) (o : Bool) → c.is_too_long.result ≡ o
    → nat_lt (max_text + bytes_in (raw_ranges (line_cells (line_view c.line-line.result.now).bytes) (all (rewrite_view c.args.change) (line_view c.line-line.result.now) c.assignment_of-assignment.result)))
    (size_of c.args.doc.now + length (all (rewrite_view c.args.change) (line_view c.line-line.result.now) c.assignment_of-assignment.result) * length (made (rewrite_view c.args.change) (line_view c.line-line.result.now) c.assignment_of-assignment.result)) ≡ o
long g c o e =
    let d = rewrite_view c.args.change in
    let l = line_view c.line-line.result.now in
    let p = c.assignment_of-assignment.result in
    let n =
    length-by d c.new_length-new_length.result (line_cells l.bytes) c.separator_place-separator.result (separator_place d (text_of_line l) p) c.separator_bytes.result.now c.value_text-2.result.now (value_text_located l)
    c.new_length-new_length.ensures c.separator_bytes.ensures c.separator_place-separator.ensures c.value_text-2.ensures in
    long-as c.is_too_long.result o c.places_of-places.result.count c.places_of-places.result.bytes c.new_length-new_length.result c.size-size.result
    (length (all d l p)) (bytes_in (raw_ranges (line_cells l.bytes) (all d l p))) (length (made d l p)) (size_of c.args.doc.now) c.is_too_long.ensures (plus-none _ _ c.places_of-places.ensures.count) (plus-none _ _ c.places_of-places.ensures.bytes) n c.size-size.ensures.number e

-- ---- the ends

pub returns-in-Some : goal.returns-in-Some
returns-in-Some g c =
    let at = goal.at.returns-in-Some g c in
    refused-first _ _ _ _ (inl ((change g at.In_ok-found).refused (line_view c.line-line.result.now) c.assignment_of-assignment.result (all (rewrite_view c.args.change) (line_view c.line-line.result.now) c.assignment_of-assignment.result)
    (value_text_located (line_view c.line-line.result.now)) _ c.line-line.ensures c.assignment_of-assignment.ensures refl refl (words g at.After-first_of_words _ c.in-Some.is)))

pub returns-then-is_too_long : goal.returns-then-is_too_long
returns-then-is_too_long g c =
    let at = goal.at.returns-then-is_too_long g c in
    refused-first _ _ _ TooLong (inl ((change g at.In_ok-found).long (line_view c.line-line.result.now) c.assignment_of-assignment.result (all (rewrite_view c.args.change) (line_view c.line-line.result.now) c.assignment_of-assignment.result)
    (value_text_located (line_view c.line-line.result.now)) (made (rewrite_view c.args.change) (line_view c.line-line.result.now) c.assignment_of-assignment.result) c.line-line.ensures c.assignment_of-assignment.ensures refl refl refl
    (words g at.After-first_of_words None c.in_default.is) (long g at.After-is_too_long true c.if-is_too_long.true)))

left : (g : Over) (c : After-is_too_long g)
    → first_of_words (rewrite_view c.args.change) (length (all (rewrite_view c.args.change) (line_view c.line-line.result.now) c.assignment_of-assignment.result)) (value_text_located (line_view c.line-line.result.now)) ≡ None
    → c.is_too_long.result ≡ false → IsLeft (rewrite_view c.args.change) (edit_of c.args.edit.now) c.args.doc.now c.in_ok-found.found (line_view c.line-line.result.now)
left g c none short =
    (change_line-of (rewrite_view c.args.change) (edit_of c.args.edit.now) c.args.doc.now c.in_ok-found.found c.requires.faithful c.requires.edit c.in_ok-found.ensures.found).left (line_view c.line-line.result.now) c.assignment_of-assignment.result (all (rewrite_view c.args.change) (line_view c.line-line.result.now) c.assignment_of-assignment.result)
    (value_text_located (line_view c.line-line.result.now)) (made (rewrite_view c.args.change) (line_view c.line-line.result.now) c.assignment_of-assignment.result) c.line-line.ensures c.assignment_of-assignment.ensures refl refl refl
    none (long g c false short)

pub returns-in_default-ranges : goal.returns-in_default-ranges
returns-in_default-ranges g c =
    let at = goal.at.returns-in_default-ranges g c in
    refused-first _ _ _ NoMemory (inr (refl, (left g at.After-is_too_long (words g at.After-first_of_words None c.in_default.is) c.if-is_too_long.false).unrefused))

-- the places that the code has noted
noted-by : (rs items places : List Span) → rs ≡ items → items ++ [] ≡ places → rs ≡ places
noted-by rs items places h k = h ∙ (sym (append-nil items) ∙ k)

pub changed_line-requires-clause-own : goal.changed_line-requires-clause-own
changed_line-requires-clause-own g c = (change g (goal.at.changed_line-requires-clause-own g c).In_ok-found).own _ c.line-line.ensures

pub changed_line-requires-clause-sought : goal.changed_line-requires-clause-sought
changed_line-requires-clause-sought g c = (change g (goal.at.changed_line-requires-clause-sought g c).In_ok-found).sought

pub changed_line-requires-clause-ranges : goal.changed_line-requires-clause-ranges
changed_line-requires-clause-ranges g c =
    noted-by _ c.in-Some-ranges.ranges.items _ (rw c.in-Some-ranges.is at c.deref.ensures.value) (rw c.in-Some-ranges.is at c.places_of-places.ensures.ranges)

pub changed_line-requires-clause-one : goal.changed_line-requires-clause-one
changed_line-requires-clause-one g c =
    let l = line_view c.line-line.result.now in
    let noted = noted-by _ c.in-Some-ranges.ranges.items _ (rw c.in-Some-ranges.is at c.deref.ensures.value) (rw c.in-Some-ranges.is at c.places_of-places.ensures.ranges) in
    ap (λ z. first_of_words (rewrite_view c.args.change) (length z) (value_text_located l)) noted ∙ words g (goal.at.changed_line-requires-clause-one g c).After-first_of_words None c.in_default.is

pub changed_line-requires-clause-defines : goal.changed_line-requires-clause-defines
changed_line-requires-clause-defines g c =
    let U = change g (goal.at.changed_line-requires-clause-defines g c).In_ok-found in
    place-defines c.args.doc.now c.in_ok-found.found U.place (omega (arith, U.within, c.size-size.ensures.few, c.size-size.ensures.some_bytes))

pub returns-in_err-line : goal.returns-in_err-line
returns-in_err-line g c =
    let at = goal.at.returns-in_err-line g c in
    let L = left g at.After-is_too_long (words g at.After-first_of_words None c.in_default.is) c.if-is_too_long.false in
    let R = c.in_err-line.ensures.read in
    handed-on _ _ _ _ _ _ c.from_residual-in_err-line.ensures.1 (left-refused _ _ _ c.in_ok-found.found _ _ L R.refused) (omega (arith, R.few_read, ap (cost (located_text c.args.doc.now)) c.requires.edit.is)) R.forward

pub returns : goal.returns
returns g c =
    let at = goal.at.returns g c in
    let L = left g at.After-is_too_long (words g at.After-first_of_words None c.in_default.is) c.if-is_too_long.false in
    let U = change g at.In_ok-found in
    let R = c.in_ok-line.ensures.read in
    let P = L.read R.told in
    moves-made _ _ _ _ _ _ _ P.planned P.costs (exchanged c.args.doc.now c.in_ok-found.found _ _ _ U.place c.in_ok-line.ensures.line c.exchange.ensures.moves)
    (read-anew _ _ _ c.exchange.ensures.refused R.counted R.few_read R.forward)
