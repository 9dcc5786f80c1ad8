use Rattle.std.proofs.Common.{◌≡◌, ◌<◌, ◌^◌, ◌∙◌, sym, length, arith}
use Rattle.mk_edit_language.specs.LineRuns.{block_lines}
use Rattle.mk_script.proofs.on_fields.BlockTexts.{block-few}
use Rattle.mk_script.proofs.on_fields.EndWords.{free-is, free-word, none-tried, word-found, word-tried}
use Rattle.mk_script.proofs.end_words.free_word.Goals as goal

pub loop-word-init : goal.loop-word-init
loop-word-init g c = none-tried (block_lines c.args.block.now)

pub overflow_add-number : goal.overflow_add-number
overflow_add-number g c =
    let few = block-few c.args.block.now in
    let lines = block_lines c.args.block.now in
    let small : length lines < 2 ^ 64 = omega (arith, few) in
    let within = (word-tried lines c.loop-word.number small c.loop-word.invariant (rw (c.deref.ensures.value, c.in_ok-word.ensures) at (sym c.has_line.ensures ∙ c.if-has_line.true))).within in
    omega (arith, few, within)

pub loop-word-smaller : goal.loop-word-smaller
loop-word-smaller g c =
    let few = block-few c.args.block.now in
    let lines = block_lines c.args.block.now in
    let small : length lines < 2 ^ 64 = omega (arith, few) in
    let within = (word-tried lines c.loop-word.number small c.loop-word.invariant (rw (c.deref.ensures.value, c.in_ok-word.ensures) at (sym c.has_line.ensures ∙ c.if-has_line.true))).within in
    omega (arith, within)

pub loop-word-preserved : goal.loop-word-preserved
loop-word-preserved g c =
    let few = block-few c.args.block.now in
    let lines = block_lines c.args.block.now in
    let small : length lines < 2 ^ 64 = omega (arith, few) in
    word-tried lines c.loop-word.number small c.loop-word.invariant (rw (c.deref.ensures.value, c.in_ok-word.ensures) at (sym c.has_line.ensures ∙ c.if-has_line.true))

pub returns-else-has_line-clause-word : goal.returns-else-has_line-clause-word
returns-else-has_line-clause-word g c =
    c.in_ok-word.ensures
    ∙ word-found (block_lines c.args.block.now) c.loop-word.number c.loop-word.invariant (rw (c.deref.ensures.value, c.in_ok-word.ensures) at (sym c.has_line.ensures ∙ c.if-has_line.false))

pub returns-else-has_line-clause-is_word : goal.returns-else-has_line-clause-is_word
returns-else-has_line-clause-is_word g c = let few = block-few c.args.block.now in free-is (block_lines c.args.block.now) (omega (arith, few))

pub returns-else-has_line-clause-free : goal.returns-else-has_line-clause-free
returns-else-has_line-clause-free g c = let few = block-few c.args.block.now in free-word (block_lines c.args.block.now) (omega (arith, few))
