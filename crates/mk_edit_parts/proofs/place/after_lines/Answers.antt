use Rattle.std.proofs.Common.{◌≡◌, ◌∙◌, ◌+◌, sym, ap, subst, refl, arith, take, true}
use Rattle.mk_class.specs.Contexts.{Context, start, context_after_located, Admits}
use Rattle.mk_class.specs.declared.class.Class.{Class}
use Rattle.mk_tree.specs.LocatedLines.{context_after_located_lines}
use Rattle.mk_tree.specs.Runs.{is_in_run}
use Rattle.mk_tree.specs.Trees.{line_view}
use Rattle.mk_tree.proofs.AdmissionLemmas.{context-faithful, drop-none, drop-step}
use Rattle.mk_edit_parts.proofs.on_finding.PlacesBelow.{IsWalkedTo, place-walked, place-stepped}
use Rattle.mk_edit_parts.proofs.on_recipes.WalkLemmas.{ahead-here}
use Rattle.mk_edit_parts.proofs.on_recipes.RunWalks.{left-on, walked-on}
use Rattle.mk_edit_parts.proofs.place.after_lines.Goals as goal

pub lines-init : goal.lines-init
lines-init g c = (sym c.lines_from-lines.ensures, omega arith, place-walked c.args.doc.now c.args.place c.requires.faithful c.requires.place (c.iter-lines.ensures.admitted c.requires.faithful))

pub unreachable-requires : goal.unreachable-requires
unreachable-requires g c = drop-none c.args.doc.now c.lines.at (omega (arith, c.lines-test.true, c.requires.in_range)) (c.lines.invariant.0 ∙ c.in_default.ensures.steps.0)

pub step-context-requires : goal.step-context-requires
step-context-requires g c =
    let S = place-stepped c.args.doc.now c.lines.at c.lines.context _ c.lines.invariant.2.context_is c.lines.invariant.2.admitted (ahead-here c.args.doc.now c.next.new.self c.lines.at (line_view c.in-Some.line.now) (c.lines.invariant.0 ∙ c.in-Some.ensures.steps)) in
    subst (λ (k : Class). Admits c.lines.context k) (sym c.class-class.ensures) S.admits

pub lines-preserved-in-Some-of : goal.lines-preserved-in-Some-of
lines-preserved-in-Some-of g c =
    let l = line_view c.in-Some.line.now in
    let d = c.args.doc.now in
    let here = c.lines.invariant.0 ∙ c.in-Some.ensures.steps in
    let S = place-stepped d c.lines.at c.lines.context l c.lines.invariant.2.context_is c.lines.invariant.2.admitted (ahead-here d c.next.new.self c.lines.at l here) in
    let next : c.step-context.result ≡ context_after_located c.lines.context l.class = c.step-context.ensures.located ∙ ap (λ (k : Class). context_after_located c.lines.context k) c.class-class.ensures in
    let below = drop-step d c.next.new.self l c.lines.at here in
    let run : is_in_run c.in-Some-of.run' l.class ≡ true = ap (is_in_run c.in-Some-of.run') (sym c.class-class.ensures) ∙ c.in-Some-of.ensures in (
      left-on d (c.lines.at + 1) _ _ _ c.in-Some-of.run' c.next.new.self _ below c.pass-at.ensures.passes refl,
      omega (arith, c.pass-at.ensures.passes.few, c.lines-test.true),
      walked-on d (c.lines.at + 1) _ _ _ c.in-Some-of.run' c.lines.context c.step-context.result l.class c.next.new.self _ below next run c.pass-at.ensures.passes refl (subst (λ (k : Context). IsWalkedTo d (c.lines.at + 1) k) (sym next) S.next),
    )

pub lines-preserved : goal.lines-preserved
lines-preserved g c =
    let l = line_view c.in-Some.line.now in
    let d = c.args.doc.now in
    let here = c.lines.invariant.0 ∙ c.in-Some.ensures.steps in
    let S = place-stepped d c.lines.at c.lines.context l c.lines.invariant.2.context_is c.lines.invariant.2.admitted (ahead-here d c.next.new.self c.lines.at l here) in
    let next : c.step-context.result ≡ context_after_located c.lines.context l.class = c.step-context.ensures.located ∙ ap (λ (k : Class). context_after_located c.lines.context k) c.class-class.ensures in (
      drop-step d c.next.new.self l c.lines.at here,
      omega (arith, c.lines-test.true),
      subst (λ (k : Context). IsWalkedTo d (c.lines.at + 1) k) (sym next) S.next,
    )

pub returns-clause-place : goal.returns-clause-place
returns-clause-place g c =
    let end : c.lines.at ≡ c.args.place.at + c.args.count = omega (arith, c.lines-test.false, c.lines.invariant.1) in
    sym (c.lines.invariant.2.context_is ∙ (ap (λ n. context_after_located_lines start (take n c.args.doc.now)) end ∙ context-faithful c.args.doc.now (c.args.place.at + c.args.count) c.requires.faithful))
