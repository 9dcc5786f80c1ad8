use Rattle.std.proofs.Common.{◌∙◌, ◌∷◌, [], ap, sym, refl, get_or, Some}
use Rattle.mk_edit_language.specs.LineRuns.{after_texts, block_lines}
use Rattle.mk_edit_parts.proofs.on_line_runs.SameLines.{begin-fewer, begin-more}
use Rattle.mk_edit_parts.proofs.block.same_lines.Goals as goal

pub lines-init : goal.lines-init
lines-init c = (tt, refl)

pub lines-preserved : goal.lines-preserved
lines-preserved c =
    let b = block_lines c.args.block.now in
    let M = begin-more (get_or b 0 []) c.lines.count b (block_lines c.lines.left.now) (block_lines c.in-Lines.lines.now) c.lines.invariant.0 c.lines.invariant.1
    (c.in-Lines.ensures ∙ ap (λ x. after_texts (x ∷ []) (block_lines c.lines.left.now)) c.block_front-first.ensures.first) in
    (M.same, sym M.left)

pub returns-in-Nothing : goal.returns-in-Nothing
returns-in-Nothing c =
    let b = block_lines c.args.block.now in
    (begin-more (get_or b 0 []) c.lines.count b (block_lines c.lines.left.now) [] c.lines.invariant.0 c.lines.invariant.1
    (c.in-Nothing.ensures ∙ ap (λ x. after_texts (x ∷ []) (block_lines c.lines.left.now)) c.block_front-first.ensures.first)).same

pub returns : goal.returns
returns c = begin-fewer _ c.line_count-all.result c.lines.count _ c.lines-test.false c.lines.invariant.0
