use Rattle.std.proofs.Common.{◌∙◌, refl}
use Rattle.std.proofs.lemmas.Bool.Decides.{Decides-eqb}
use Rattle.std.proofs.lemmas.Slice.Eq.{slice_eq-Decides}
use Rattle.mk_script.proofs.on_commands.FilledLemmas.{none-passed, line-passed, other-line, word-found, word-never}
use Rattle.mk_script.proofs.block.pass_block.Goals as goal

pub lines-init : goal.lines-init
lines-init c = record { passed = none-passed c.args.word.now c.args.below.now.lines; number = refl }

pub lines-preserved : goal.lines-preserved
lines-preserved c = record {
  passed =
      line-passed c.args.word.now c.args.below.now.lines c.lines.count c.in-Some.line.now c.next.new.self.lines c.lines.below.lines c.in-Some.ensures.lines c.lines.invariant.passed
      (other-line c.in-Some.line.now c.args.word.now (λ same. let yes = (slice_eq-Decides Decides-eqb _ _ _ c.eq.ensures).1 same in let unequal = c.if-eq.false in absurd (cc)));
  number = c.next.ensures.number ∙ c.lines.invariant.number;
}

pub returns-then-eq-clause-passed : goal.returns-then-eq-clause-passed
returns-then-eq-clause-passed c =
    word-found c.args.word.now c.args.below.now.lines c.lines.count c.in-Some.line.now c.next.new.self.lines c.lines.below.lines c.in-Some.ensures.lines c.lines.invariant.passed
    ((slice_eq-Decides Decides-eqb _ _ _ c.eq.ensures).0 c.if-eq.true)

pub returns-clause-passed : goal.returns-clause-passed
returns-clause-passed c =
    word-never c.args.word.now c.args.below.now.lines c.lines.count c.lines.below.lines c.next.new.self.lines c.in_default.ensures.lines.0 c.lines.invariant.passed
