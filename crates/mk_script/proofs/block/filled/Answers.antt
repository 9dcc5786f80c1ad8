use Rattle.std.proofs.Common.{ap, sym, ◌∙◌, Some}
use Rattle.mk_script.specs.Fields.{text}
use Rattle.mk_script.specs.SeenFields.{seen}
use Rattle.mk_script.proofs.on_commands.FilledLemmas.{filled-alone, passed-block, passed-enough, passed-none, passed-empty}
use Rattle.mk_script.proofs.block.filled.Goals as goal

pub returns-in_default-clause-field : goal.returns-in_default-clause-field
returns-in_default-clause-field c = rw c.if-is_plain.false (filled-alone (seen c.args.field) c.args.below.now.lines (sym c.in_default.ensures))

pub returns-in_default-pass_block-clause-field : goal.returns-in_default-pass_block-clause-field
returns-in_default-pass_block-clause-field c =
    rw c.if-is_plain.false (passed-none (seen c.args.field) c.in-Some.word.now c.args.below.now.lines c.pass_block.new.below.lines (sym c.in-Some.ensures) c.in_default-pass_block.ensures.passed)

pub returns-then-count-eq0-clause-field : goal.returns-then-count-eq0-clause-field
returns-then-count-eq0-clause-field c =
    rw c.if-is_plain.false
    (passed-empty (seen c.args.field) c.in-Some.word.now c.args.below.now.lines c.pass_block.new.below.lines c.in-Some-pass_block.count (sym c.in-Some.ensures) c.in-Some-pass_block.ensures.passed c.if-count-eq0.true)

pub lines-requires : goal.lines-requires
lines-requires c = passed-enough c.in-Some.word.now c.as_script-script.result.now c.args.below.now.lines c.pass_block.new.below.lines c.in-Some-pass_block.count c.as_script-script.ensures c.in-Some-pass_block.ensures.passed

pub returns-clause-field : goal.returns-clause-field
returns-clause-field c =
    rw c.if-is_plain.false
    (passed-block (seen c.args.field) c.in-Some.word.now c.as_script-script.result.now c.args.below.now.lines c.pass_block.new.below.lines c.in-Some-pass_block.count (sym c.in-Some.ensures) c.as_script-script.ensures
    c.in-Some-pass_block.ensures.passed c.if-count-eq0.false
    ∙ ap (λ s. Some (text s, c.pass_block.new.below.lines)) (sym c.lines.ensures))
