use Rattle.std.proofs.Common.{◌∙◌, ◌+◌, ◌-◌, ◌*◌, ap, arith, drop, length}
use Rattle.std.proofs.lemmas.List.{length-drop, take_all}
use Rattle.mk_edit_language.specs.LineRuns.{block_lines}
use Rattle.mk_edit_parts.proofs.on_line_runs.SameLines.{same-cut}
use Rattle.mk_edit_parts.proofs.block.after_same.Goals as goal

pub overflow_mul-cut : goal.overflow_mul-cut
overflow_mul-cut c = omega (arith, (same-cut c.args.passed c.args.block.now c.args.first.now c.requires).within)

pub returns-then-cut-block : goal.returns-then-cut-block
returns-then-cut-block c = (same-cut c.args.passed c.args.block.now c.args.first.now c.requires).none (omega arith)

pub returns : goal.returns
returns c =
    let u = c.args.block.now in
    let cut = c.args.passed * (length c.args.first.now + 1) in
    let all = take_all (length u - cut) (drop cut u) (omega (arith, length-drop cut u)) in
    ap block_lines all ∙ (same-cut c.args.passed u c.args.first.now c.requires).left (omega arith)
