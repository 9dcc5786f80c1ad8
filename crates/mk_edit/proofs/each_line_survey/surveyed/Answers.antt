use Rattle.std.proofs.Common.{◌∙◌, sym, ap, subst, arith}
use Rattle.std.proofs.lemmas.Bool.{le-ltb, lt-ltb}
use Rattle.mk_class.specs.Contexts.{Admits, context_after_located}
use Rattle.mk_tree.specs.Trees.{line_view}
use Rattle.mk_edit_language.specs.EditViews.{each_edit_of}
use Rattle.mk_edit.specs.EachLineSurveys.{IsCountable}
use Rattle.mk_edit.specs.declared.each_line_count.PlaceCount.{PlaceCount}
use Rattle.mk_edit.proofs.on_each_lines.EachWalks.{IsLineWalked, line-walked, noted-by, walked-first, walked-last}
use Rattle.mk_edit.proofs.each_line_survey.surveyed.Given.{Over}
use Rattle.mk_edit.proofs.each_line_survey.surveyed.Goals.{In-Some, In-None, then-places-gt0, else-places-gt0}
use Rattle.mk_edit.proofs.each_line_survey.surveyed.Goals as goal

pub lines-init : goal.lines-init
lines-init g c = (
  tt,
  tt,
  omega arith,
  c.requires.ahead,
  walked-first (λ n. n.items) _ _ c.args.survey.place _ _ _ (c.into_iter-line-iterator.ensures.into_iter_gives ∙ c.lines_from-line-items.ensures) c.requires.faithful c.requires.admitted c.requires.surveyed,
)

-- the line that is handed out
here : (g : Over) (c : In-Some g) → IsLineWalked (λ n. n.items) (each_edit_of c.args.edit.now) c.args.doc.now c.lines.at c.lines.context (line_view c.in-Some.line.now) c.next.new.self c.lines.findings c.lines.notes
here g c =
    line-walked (λ n. n.items) (each_edit_of c.args.edit.now) c.args.doc.now c.requires.lines c.lines.at c.lines.context (line_view c.in-Some.line.now) c.lines.line-iterator c.next.new.self c.lines.findings c.lines.notes c.in-Some.ensures.steps
    c.lines.invariant.4

pub places_meant-places-requires-clause-classed : goal.places_meant-places-requires-clause-classed
places_meant-places-requires-clause-classed g c = (here g (goal.at.places_meant-places-requires-clause-classed g c).In-Some).classed

pub places_meant-places-requires-clause-can : goal.places_meant-places-requires-clause-can
places_meant-places-requires-clause-can g c = λ t.
    subst (λ k. IsCountable k (line_view c.in-Some.line.now)) (sym c.requires.change) ((here g (goal.at.places_meant-places-requires-clause-can g c).In-Some).can t)

pub found-findings-requires-clause-classed : goal.found-findings-requires-clause-classed
found-findings-requires-clause-classed g c = (here g (goal.at.found-findings-requires-clause-classed g c).In-Some).classed

pub found-findings-requires-clause-few_passed : goal.found-findings-requires-clause-few_passed
found-findings-requires-clause-few_passed g c =
    let W = here g (goal.at.found-findings-requires-clause-few_passed g c).In-Some in
    omega (arith, W.few_passed, W.here, c.size-size.ensures.few, c.size-size.ensures.some_bytes)

pub found-findings-requires-clause-few_lines : goal.found-findings-requires-clause-few_lines
found-findings-requires-clause-few_lines g c =
    let W = here g (goal.at.found-findings-requires-clause-few_lines g c).In-Some in
    omega (arith, W.few_lines, W.here, c.size-size.ensures.few, c.size-size.ensures.some_bytes)

pub found-findings-requires-clause-few_bytes : goal.found-findings-requires-clause-few_bytes
found-findings-requires-clause-few_bytes g c =
    let W = here g (goal.at.found-findings-requires-clause-few_bytes g c).In-Some in
    omega (arith, W.room, ap (λ (q : PlaceCount). q.bytes) c.places_meant-places.ensures)

pub gets_longer-requires : goal.gets_longer-requires
gets_longer-requires g c =
    let W = here g (goal.at.gets_longer-requires g c).In-Some in
    omega (arith, W.room, ap (λ (q : PlaceCount). q.bytes) c.places_meant-places.ensures)

pub overflow_add-at : goal.overflow_add-at
overflow_add-at g c =
    let W = here g (goal.at.overflow_add-at g c).In-Some in
    omega (arith, W.here, c.size-size.ensures.few, c.size-size.ensures.some_bytes)

pub step-context-requires : goal.step-context-requires
step-context-requires g c =
    let W = here g (goal.at.step-context-requires g c).In-Some in
    subst (Admits c.lines.context) (sym c.class-class.ensures) W.admits

pub lines-preserved : goal.lines-preserved
lines-preserved g c =
    let W = here g (goal.at.lines-preserved g c).In-Some in
    let k = c.step-context.ensures.located ∙ ap (context_after_located c.lines.context) c.class-class.ensures in
    let q = c.places_meant-places.ensures in
    let e = c.found-findings.ensures in (
      tt,
      tt,
      omega (arith, c.lines.invariant.2),
      omega (arith, c.lines.invariant.3),
      elim c.if-places-gt0.branch [
        | then-places-gt0 w ↦
            rw w.notes-is (W.more _ _ _ (record { place = record { at = c.lines.at; context = c.lines.context }; line = c.in-Some.line; is_longer = w.gets_longer.result }) w.with_noted-notes.result k q e (lt-ltb 0 c.places_meant-places.result.count w.if-places-gt0.true)
            (noted-by c.lines.at c.lines.context (line_view c.in-Some.line.now) c.places_meant-places.result w.gets_longer.result w.gets_longer.ensures) w.with_noted-notes.ensures)
        | else-places-gt0 w ↦ rw w.notes-is (W.kept _ _ _ k q e (le-ltb 0 c.places_meant-places.result.count w.if-places-gt0.false))
      ],
    )

pub returns-clause-surveyed : goal.returns-clause-surveyed
returns-clause-surveyed g c =
    walked-last (λ n. n.items) (each_edit_of c.args.edit.now) c.args.doc.now c.lines.at c.lines.context c.lines.line-iterator c.lines.findings c.lines.notes c.lines.invariant.4
