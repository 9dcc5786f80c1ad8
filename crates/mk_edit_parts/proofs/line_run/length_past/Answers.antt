use Rattle.std.proofs.Common.{◌≡◌, ◌∙◌, ◌+◌, ℕ, [], ap, sym, subst, arith, drop, length, Some, None}
use Rattle.std.proofs.lemmas.List.{length-drop}
use Rattle.mk_tree.specs.Trees.{line_view}
use Rattle.mk_edit_language.specs.LineRuns.{block_lines}
use Rattle.mk_edit_parts.specs.LineRunWalks.{BeginSame, run_length}
use Rattle.mk_edit_parts.proofs.on_line_runs.SameLines.{alone-few, length-left_over, within-less}
use Rattle.mk_edit_parts.proofs.line_run.length_past.Goals as goal

pub after_same-requires : goal.after_same-requires
after_same-requires g c = subst (λ x. BeginSame x c.args.passed (block_lines c.args.block.now)) (sym c.block_front.ensures.first) c.requires.same

pub returns-then-passed-eq0-clause-within : goal.returns-then-passed-eq0-clause-within
returns-then-passed-eq0-clause-within g c = within-less c.length_at.result c.args.at (length c.args.doc.now) c.length_at.ensures.within

pub length_from-requires : goal.length_from-requires
length_from-requires g c = record { in_range = omega (arith, c.requires.in_range, alone-few _ c.args.passed (drop c.args.at c.args.doc.now) c.requires.alone, length-drop c.args.at c.args.doc.now) }

pub returns-in_default-clause-within : goal.returns-in_default-clause-within
returns-in_default-clause-within g c = omega (arith, c.requires.in_range, alone-few _ c.args.passed (drop c.args.at c.args.doc.now) c.requires.alone, length-drop c.args.at c.args.doc.now)

pub overflow_add-at-2 : goal.overflow_add-at-2
overflow_add-at-2 g c = omega (arith, c.requires.in_range, alone-few _ c.args.passed (drop c.args.at c.args.doc.now) c.requires.alone, length-drop c.args.at c.args.doc.now)

pub returns-in_default-clause-run : goal.returns-in_default-clause-run
returns-in_default-clause-run g c =
    let none : drop c.args.passed (block_lines c.args.block.now) ≡ [] = c.in_default.ensures in
    let all : c.args.passed + 0 ≡ c.args.passed = omega arith in
    ap (λ (n : ℕ). Some n) (sym all)
    ∙ length-left_over _ c.args.passed c.args.at (block_lines c.args.block.now) c.args.doc.now (drop (c.args.at + 1) c.args.doc.now) (line_view c.args.line.now) (Some 0) c.requires.here c.requires.same c.requires.alone
    (sym (ap (λ b. run_length b (drop (c.args.at + c.args.passed) c.args.doc.now)) none))

pub returns-in-Some-length_from-clause-run : goal.returns-in-Some-length_from-clause-run
returns-in-Some-length_from-clause-run g c =
    length-left_over _ c.args.passed c.args.at (block_lines c.args.block.now) c.args.doc.now (drop (c.args.at + 1) c.args.doc.now) (line_view c.args.line.now) (Some c.in-Some-length_from.count) c.requires.here c.requires.same c.requires.alone
    (c.in-Some-length_from.ensures.run ∙ ap (λ b. run_length b (drop (c.args.at + c.args.passed) c.args.doc.now)) c.in-Some.ensures)

pub returns-in-None-clause-run : goal.returns-in-None-clause-run
returns-in-None-clause-run g c =
    length-left_over _ c.args.passed c.args.at (block_lines c.args.block.now) c.args.doc.now (drop (c.args.at + 1) c.args.doc.now) (line_view c.args.line.now) None c.requires.here c.requires.same c.requires.alone
    (c.in-None.ensures.run ∙ ap (λ b. run_length b (drop (c.args.at + c.args.passed) c.args.doc.now)) c.in-Some.ensures)
