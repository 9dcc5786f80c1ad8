use Rattle.std.proofs.Common.{arith, ap, length, ◌+◌, drop, ◌∙◌}
use Rattle.std.proofs.lemmas.List.{length-drop}
use Rattle.mk_tree.proofs.AdmissionLemmas.{drop-none, drop-step}
use Rattle.mk_tree.proofs.OriginLemmas.{size-step, size_of-between}
use Rattle.mk_tree.proofs.document.Doc.bytes_between.Goals as goal

pub unreachable-requires : goal.unreachable-requires
unreachable-requires g c =
    drop-none (drop c.args.from c.args.self.now) c.lines.at (omega (arith, c.lines-test.true, c.requires.in_range, length-drop c.args.from c.args.self.now)) (c.lines.invariant.0 ∙ c.in_default.ensures.steps.0)

pub lines-preserved : goal.lines-preserved
lines-preserved g c =
    let (here, bytes) = c.lines.invariant in
    let step = size-step (drop c.args.from c.args.self.now) _ _ _ c.lines.at here c.in-Some.ensures.steps in (
      drop-step (drop c.args.from c.args.self.now) _ _ c.lines.at (here ∙ c.in-Some.ensures.steps),
      omega (arith, bytes, step, ap length c.bytes.ensures.bytes),
    )

pub overflow_add-bytes : goal.overflow_add-bytes
overflow_add-bytes g c =
    let within = size_of-between c.args.from (c.lines.at + 1) c.args.self.now in
    omega (arith, (lines-preserved g c).1, within, c.size-size.ensures.few)
