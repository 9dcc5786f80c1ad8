use Rattle.std.proofs.Common.{◌≡◌, ◌∙◌, refl, sym, ap, arith, inl, Bool, true, false}
use Rattle.mk_tree.specs.LocatedLines.{located_text}
use Rattle.mk_edit_language.specs.Costs.{cost}
use Rattle.mk_edit_language.specs.Edits.{Uncomment}
use Rattle.mk_edit_language.specs.EditViews.{edit_of}
use Rattle.mk_edit_language.specs.LineChanges.{fits_line}
use Rattle.mk_edit_language.specs.SwitchedLines.{line_switched}
use Rattle.mk_edit_language.specs.declared.refusal.Refusal.TheVariants.{Leans, Misread, NoMemory}
use Rattle.mk_edit.proofs.on_line_changes.ChangeLinePlans.{exchanged, handed-on, read-anew}
use Rattle.mk_edit.proofs.on_line_changes.MisreadLines.{fits-by, fits-one}
use Rattle.mk_edit.proofs.on_plans.DocumentPlaces.{place-defines}
use Rattle.mk_edit.proofs.on_plans.PlanLemmas.{refused-first, moves-made}
use Rattle.mk_edit.proofs.on_switches.SwitchPlans.{IsSwitchOf, fit, memory-there, read-refused, switch-of, unfit}
use Rattle.mk_edit.proofs.switch_line.plan_uncomment.Given.{Over}
use Rattle.mk_edit.proofs.switch_line.plan_uncomment.Goals.{After-fits_line, In_ok-place, In-Ok}
use Rattle.mk_edit.proofs.switch_line.plan_uncomment.Goals as goal

line : (g : Over) (c : In_ok-place g) → IsSwitchOf Uncomment c.args.name.now (edit_of c.args.edit.now) c.args.doc.now c.in_ok-place.place
line g c = switch-of _ _ _ _ _ c.requires.faithful c.requires.kind c.in_ok-place.ensures.found

-- the bytes of the new line, and whether they fit
made : (g : Over) (c : In-Ok g) → (U : IsSwitchOf Uncomment c.args.name.now (edit_of c.args.edit.now) c.args.doc.now c.in_ok-place.place) → c.in-Ok.bytes.items ≡ line_switched Uncomment U.spot.line.bytes
made g c U = c.in-Ok.ensures ∙ ap (line_switched Uncomment) (U.line_is _ c.line-line.ensures)

fits : (g : Over) (c : After-fits_line g) (b : Bool) → (U : IsSwitchOf Uncomment c.args.name.now (edit_of c.args.edit.now) c.args.doc.now c.in_ok-place.place) → c.fits_line.result ≡ b → fits_line U.spot.line.bytes c.in-Ok.bytes.items ≡ b
fits g c b U e = fits-by _ _ _ _ _ b c.fits_line.ensures (c.bytes.ensures.bytes ∙ U.line_is _ c.line-line.ensures) c.deref.ensures.value e

pub line-line-requires : goal.line-line-requires
line-line-requires g c = (line g (goal.at.line-line-requires g c).In_ok-place).within

pub returns-in_default : goal.returns-in_default
returns-in_default g c =
    let U = line g (goal.at.returns-in_default g c).In_ok-place in
    refused-first _ _ _ NoMemory (memory-there _ _ _ _ c.requires.kind U c.size-size.ensures.few)

pub returns-then-not-fits_line : goal.returns-then-not-fits_line
returns-then-not-fits_line g c =
    let at = goal.at.returns-then-not-fits_line g c in
    let U = line g at.In_ok-place in
    refused-first _ _ _ Misread (inl (U.unread c.size-size.ensures.few refl (unfit _ U.spot _ (made g at.In-Ok U) (fits g at.After-fits_line false U c.if-not-fits_line.true))))

pub read_assignment-requires-clause-one : goal.read_assignment-requires-clause-one
read_assignment-requires-clause-one g c =
    let at = goal.at.read_assignment-requires-clause-one g c in
    let U = line g at.In_ok-place in
    fits-one U.spot.line.bytes c.in-Ok.bytes.items (fits g at.After-fits_line true U c.if-not-fits_line.false)

pub read_assignment-requires-clause-defines : goal.read_assignment-requires-clause-defines
read_assignment-requires-clause-defines g c =
    let U = line g (goal.at.read_assignment-requires-clause-defines g c).In_ok-place in
    place-defines c.args.doc.now c.in_ok-place.place U.place (omega (arith, U.within, c.size-size.ensures.few, c.size-size.ensures.some_bytes))

pub returns-in_err-new : goal.returns-in_err-new
returns-in_err-new g c =
    let at = goal.at.returns-in_err-new g c in
    let U = line g at.In_ok-place in
    let R = c.in_err-new.ensures in
    handed-on _ _ _ _ _ _ c.from_residual-in_err-new.ensures.1
    (read-refused _ _ _ _ _ _ c.requires.kind U c.size-size.ensures.few (made g at.In-Ok U) (fits g at.After-fits_line true U c.if-not-fits_line.false) R.refused)
    (omega (arith, R.few_read, ap (cost (located_text c.args.doc.now)) c.requires.kind.is)) R.forward

pub leans_on_assignment-leans-requires-clause-in_range : goal.leans_on_assignment-leans-requires-clause-in_range
leans_on_assignment-leans-requires-clause-in_range g c = (line g (goal.at.leans_on_assignment-leans-requires-clause-in_range g c).In_ok-place).within

pub returns-then-leans : goal.returns-then-leans
returns-then-leans g c =
    let at = goal.at.returns-then-leans g c in
    let U = line g at.In_ok-place in
    let R = c.in_ok-new.ensures in
    let read = fit _ U.spot _ _ true (made g at.In-Ok U) (fits g at.After-fits_line true U c.if-not-fits_line.false) U.stands.context_is R.assigns in
    handed-on _ _ _ _ Leans _ refl (inl (U.leaned read (sym (c.leans_on_assignment-leans.ensures U.spot U.stands) ∙ c.if-leans.true)))
    (omega (arith, R.few_read, ap (cost (located_text c.args.doc.now)) c.requires.kind.is)) R.forward

pub returns : goal.returns
returns g c =
    let at = goal.at.returns g c in
    let U = line g at.In_ok-place in
    let R = c.in_ok-new.ensures in
    let read = fit _ U.spot _ _ true (made g at.In-Ok U) (fits g at.After-fits_line true U c.if-not-fits_line.false) U.stands.context_is R.assigns in
    let free = sym (c.leans_on_assignment-leans.ensures U.spot U.stands) ∙ c.if-leans.false in
    let P = U.replaced _ read free c.size-size.ensures.few (λ i. absurd (cc)) (made g at.In-Ok U) in
    moves-made _ _ _ _ _ _ _ P.planned P.costs (exchanged c.args.doc.now c.in_ok-place.place _ _ _ U.place R.line c.exchange.ensures.moves)
    (read-anew _ _ _ c.exchange.ensures.refused R.counted R.few_read R.forward)
