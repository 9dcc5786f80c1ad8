use Rattle.std.proofs.Common.{◌∙◌, ◌+◌, ◌||◌, ap, arith, drop, length}
use Rattle.std.proofs.lemmas.List.{length-drop}
use Rattle.mk_class.specs.Contexts.{context_after_located}
use Rattle.mk_class.specs.declared.class.Class.{Class}
use Rattle.mk_tree.specs.Trees.{line_view}
use Rattle.mk_tree.proofs.AdmissionLemmas.{drop-none}
use Rattle.mk_tree.proofs.OriginLemmas.{size_of-between}
use Rattle.mk_edit_parts.proofs.on_finding.PlacesBelow.{place-walked}
use Rattle.mk_edit.proofs.on_exchanges.LinesLeft.{end-same, going-first, going-next}
use Rattle.mk_edit.proofs.lines_end.going_lines.Goals as goal

pub lines-init : goal.lines-init
lines-init g c =
    going-first c.args.doc.now c.args.place.at c.args.place.context c.lines_from-lines.result c.lines_from-lines.ensures c.requires.faithful
    (place-walked c.args.doc.now c.args.place c.requires.faithful c.requires.place (c.iter-lines.ensures.admitted c.requires.faithful)).admitted

pub unreachable-requires : goal.unreachable-requires
unreachable-requires g c =
    drop-none (drop c.args.place.at c.args.doc.now) c.lines.passed (omega (arith, c.lines-test.true, c.requires.in_range, length-drop c.args.place.at c.args.doc.now)) (c.lines.invariant.ahead_is ∙ c.in_default.ensures.steps.0)

pub overflow_add-bytes : goal.overflow_add-bytes
overflow_add-bytes g c =
    let G = going-next _ _ _ _ _ c.next.new.self _ _ (line_view c.in-Some.line.now) c.in-Some.ensures.steps c.lines.invariant in
    omega (arith, G.few, ap length c.bytes.ensures.bytes, c.size-size.ensures.few)

pub lines-preserved : goal.lines-preserved
lines-preserved g c =
    let G = going-next _ _ _ _ _ c.next.new.self _ _ (line_view c.in-Some.line.now) c.in-Some.ensures.steps c.lines.invariant in
    let context = c.step-context.ensures.located ∙ ap (λ (k : Class). context_after_located c.lines.context k) c.class-class.ensures in
    G.next _ _ (ap (λ n. c.lines.bytes + n) (ap length c.bytes.ensures.bytes)) (end-same _ _ _ _ context (ap (λ b. c.lines.has_prefix || b) c.is_of_prefix-has_prefix.ensures))

pub returns-clause-few : goal.returns-clause-few
returns-clause-few g c = omega (arith, c.lines.invariant.bytes_are, size_of-between c.args.place.at c.lines.passed c.args.doc.now)
