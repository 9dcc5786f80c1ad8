use Rattle.std.proofs.Common.{◌≡◌, ◌∙◌, ◌+◌, refl, sym, ap, subst, arith}
use Rattle.mk_class.specs.Contexts.{Admits, context_after_located}
use Rattle.mk_tree.specs.Trees.{line_view}
use Rattle.mk_edit.specs.ValueChangeLines.{change_view}
use Rattle.mk_edit.proofs.on_value_changes.WindowsWalked.{line-walked, walked-all, walked-first, walked-last}
use Rattle.mk_edit.proofs.change_values_survey.surveyed.Goals as goal
use Rattle.mk_edit.proofs.change_values_survey.surveyed.Goals.{in-None, in-Some+then-at-end, then-is_changed, else-is_changed}

pub lines-init : goal.lines-init
lines-init g c = (
  tt,
  tt,
  omega arith,
  walked-first (λ p. p.items) _ _ _ c.args.window.place _ _ _ (c.into_iter-line-iterator.ensures.into_iter_gives ∙ c.lines_from-line-items.ensures) c.requires.faithful c.requires.admitted c.requires.surveyed,
)

pub changes_line-is_changed-requires : goal.changes_line-is_changed-requires
changes_line-is_changed-requires g c =
    let W = line-walked (λ p. p.items) c.args.name.now (change_view c.args.change) c.args.doc.now c.args.window.place c.lines.at c.lines.context (line_view c.in-Some.line.now) c.lines.line-iterator c.next.new.self c.lines.findings c.lines.places c.in-Some.ensures.steps c.lines.invariant.3 in
    record { classed = W.classed; class = c.class-class.ensures }

pub found-findings-requires : goal.found-findings-requires
found-findings-requires g c =
    let W = line-walked (λ p. p.items) c.args.name.now (change_view c.args.change) c.args.doc.now c.args.window.place c.lines.at c.lines.context (line_view c.in-Some.line.now) c.lines.line-iterator c.next.new.self c.lines.findings c.lines.places c.in-Some.ensures.steps c.lines.invariant.3 in
    record {
      classed = W.classed;
      class = c.class-class.ensures;
      changed = c.changes_line-is_changed.ensures;
      few_lines = omega (arith, W.few_lines, c.lines.invariant.2, c.requires.in_range, c.size-size.ensures.few, c.size-size.ensures.some_bytes);
      few = omega (arith, W.room);
    }

pub step-context-requires : goal.step-context-requires
step-context-requires g c =
    let W = line-walked (λ p. p.items) c.args.name.now (change_view c.args.change) c.args.doc.now c.args.window.place c.lines.at c.lines.context (line_view c.in-Some.line.now) c.lines.line-iterator c.next.new.self c.lines.findings c.lines.places c.in-Some.ensures.steps c.lines.invariant.3 in
    subst (Admits c.lines.context) (sym c.class-class.ensures) W.admits

pub lines-preserved : goal.lines-preserved
lines-preserved g c =
    let W = line-walked (λ p. p.items) c.args.name.now (change_view c.args.change) c.args.doc.now c.args.window.place c.lines.at c.lines.context (line_view c.in-Some.line.now) c.lines.line-iterator c.next.new.self c.lines.findings c.lines.places c.in-Some.ensures.steps c.lines.invariant.3 in
    let k = c.step-context.ensures.located ∙ ap (context_after_located c.lines.context) c.class-class.ensures in
    let e = c.found-findings.ensures in
    let told = sym c.changes_line-is_changed.ensures in (
      tt,
      tt,
      omega (arith, c.lines.invariant.2, c.if-at-end.false),
      elim c.if-is_changed.branch [
        | then-is_changed w ↦
            rw w.places-is (W.more _ _ (record { place = record { at = c.lines.at; context = c.lines.context }; line = c.in-Some.line }) w.with_meant-places.result k e (told ∙ w.if-is_changed.true) refl w.with_meant-places.ensures)
        | else-is_changed w ↦ rw w.places-is (W.kept _ _ k e (told ∙ w.if-is_changed.false))
      ],
    )

pub returns : goal.returns
returns g c =
    let over : c.lines.at ≡ c.args.window.place.at + c.args.window.count = elim c.match-next.branch [
      | in-None w ↦ walked-all (λ p. p.items) _ _ _ c.args.window.place c.lines.at c.args.window.count _ _ _ _ w.in-None.ensures.steps.0 c.requires.in_range c.lines.invariant.2 c.lines.invariant.3
      | in-Some+then-at-end w ↦ w.if-at-end.true
    ] in
    walked-last (λ p. p.items) _ _ _ c.args.window.place c.lines.at c.args.window.count _ _ _ _ over c.lines.invariant.3
