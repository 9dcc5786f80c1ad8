use Rattle.std.proofs.Common.{◌∙◌, refl, sym, ap, arith, inl}
use Rattle.mk_edit_language.specs.Edits.{CommentOut}
use Rattle.mk_edit_language.specs.EditViews.{edit_of}
use Rattle.mk_edit_language.specs.SwitchedLines.{line_switched}
use Rattle.mk_edit.proofs.on_plans.PlanLemmas.{refused-first, memory-first, moves-made}
use Rattle.mk_edit.proofs.on_switches.SwitchPlans.{IsSwitchOf, switch-of}
use Rattle.mk_edit.proofs.switch_line.plan_comment_out.Given.{Over}
use Rattle.mk_edit.proofs.switch_line.plan_comment_out.Goals.{In_ok-place}
use Rattle.mk_edit.proofs.switch_line.plan_comment_out.Goals as goal

line : (g : Over) (c : In_ok-place g) → IsSwitchOf CommentOut c.args.name.now (edit_of c.args.edit.now) c.args.doc.now c.in_ok-place.place
line g c = switch-of _ _ _ _ _ c.requires.faithful c.requires.kind c.in_ok-place.ensures.found

pub leans_on_assignment-requires-clause-in_range : goal.leans_on_assignment-requires-clause-in_range
leans_on_assignment-requires-clause-in_range g c = (line g (goal.at.leans_on_assignment-requires-clause-in_range g c).In_ok-place).within

pub returns-then-leans_on_assignment : goal.returns-then-leans_on_assignment
returns-then-leans_on_assignment g c =
    let U = line g (goal.at.returns-then-leans_on_assignment g c).In_ok-place in
    refused-first _ _ _ _ (inl (U.leaned refl (sym (c.leans_on_assignment.ensures U.spot U.stands) ∙ c.if-leans_on_assignment.true)))

pub returns-then-size-eq-MAX_TEXT : goal.returns-then-size-eq-MAX_TEXT
returns-then-size-eq-MAX_TEXT g c =
    let U = line g (goal.at.returns-then-size-eq-MAX_TEXT g c).In_ok-place in
    let free = sym (c.leans_on_assignment.ensures U.spot U.stands) ∙ c.if-leans_on_assignment.false in
    refused-first _ _ _ _ (inl (U.long refl free (omega (arith, c.size-size.ensures.number, c.if-size-eq-MAX_TEXT.true))))

pub line-line-requires : goal.line-line-requires
line-line-requires g c = (line g (goal.at.line-line-requires g c).In_ok-place).within

pub returns-in_default : goal.returns-in_default
returns-in_default g c =
    let U = line g (goal.at.returns-in_default g c).In_ok-place in
    let free = sym (c.leans_on_assignment.ensures U.spot U.stands) ∙ c.if-leans_on_assignment.false in
    memory-first _ _ _ _ (U.taken refl free c.size-size.ensures.few (λ i. omega (arith, c.size-size.ensures.number, c.size-size.ensures.few, c.if-size-eq-MAX_TEXT.false)))

pub replace_line-requires : goal.replace_line-requires
replace_line-requires g c =
    let U = line g (goal.at.replace_line-requires g c).In_ok-place in
    let free = sym (c.leans_on_assignment.ensures U.spot U.stands) ∙ c.if-leans_on_assignment.false in
    let R =
    U.replaced _ refl free c.size-size.ensures.few (λ i. omega (arith, c.size-size.ensures.number, c.size-size.ensures.few, c.if-size-eq-MAX_TEXT.false))
    (c.in-Ok.ensures ∙ ap (line_switched CommentOut) (U.line_is _ c.line-line.ensures)) in
    record { place = U.place; can = R.can }

pub returns : goal.returns
returns g c =
    let U = line g (goal.at.returns g c).In_ok-place in
    let free = sym (c.leans_on_assignment.ensures U.spot U.stands) ∙ c.if-leans_on_assignment.false in
    let R =
    U.replaced _ refl free c.size-size.ensures.few (λ i. omega (arith, c.size-size.ensures.number, c.size-size.ensures.few, c.if-size-eq-MAX_TEXT.false))
    (c.in-Ok.ensures ∙ ap (line_switched CommentOut) (U.line_is _ c.line-line.ensures)) in
    moves-made _ _ _ _ _ _ _ R.planned R.costs c.replace_line.ensures.moves c.replace_line.ensures.reads
