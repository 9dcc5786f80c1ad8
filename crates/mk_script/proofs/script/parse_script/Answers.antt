use Rattle.std.proofs.Common.{ap, sym, ◌∙◌, subst, map, length, ◌+◌, arith}
use Rattle.std.specs.Prelude.{Err}
use Rattle.mk_script.specs.BlockReading.{saying}
use Rattle.mk_script.specs.ReaderAnswers.{AddsLine}
use Rattle.mk_script.specs.Scripts.{step_of}
use Rattle.mk_script.proofs.on_scripts.LineLemmas.{skipped-is, unskipped}
use Rattle.mk_script.proofs.on_scripts.ScriptLemmas.{start-read, IsAt, at-line, at-skipped, at-said, at-fewer, at-unread, at-short, all-read}
use Rattle.mk_script.proofs.script.parse_script.Goals as goal

pub lines-init : goal.lines-init
lines-init g c =
    start-read c.args.script.now c.new-below.result.number c.new-below.result.lines _ c.new-below.ensures.number c.new-below.ensures.lines (ap (map step_of) c.new-steps.ensures.items)

pub lines-preserved-then-is_skipped : goal.lines-preserved-then-is_skipped
lines-preserved-then-is_skipped g c =
    let steps = map step_of c.lines.steps.items in
    let at = at-line c.args.script.now c.lines.below.number c.next.new.self.number c.lines.below.lines c.in-Some.line.now c.next.new.self.lines steps c.lines.invariant c.in-Some.ensures.lines c.next.ensures.number in
    at-skipped c.args.script.now c.next.new.self.number c.in-Some.line.now c.next.new.self.lines steps at (skipped-is c.in-Some.line.now (sym c.is_skipped.ensures ∙ c.if-is_skipped.true))

pub lines-preserved : goal.lines-preserved
lines-preserved g c =
    let script = c.args.script.now in
    let line = c.in-Some.line.now in
    let below = c.next.new.self.lines in
    let steps = map step_of c.lines.steps.items in
    let at = at-line script c.lines.below.number c.next.new.self.number c.lines.below.lines line below steps c.lines.invariant c.in-Some.ensures.lines c.next.ensures.number in
    let here = subst (λ n. IsAt script n line below steps) (sym c.number-number.ensures) at in
    let added = c.in-Ok.ensures.line in
    at-said script c.number-number.result c.add_line.new.below.number line below c.add_line.new.below.lines steps (map step_of c.add_line.new.steps.items) added.0 here added.1 added.2
    (c.add_line.ensures.number ∙ ap (λ n. n + length below) (sym c.number-number.ensures))

pub lines-smaller : goal.lines-smaller
lines-smaller g c =
    let added = c.in-Ok.ensures.line in
    let fewer = at-fewer c.in-Some.line.now c.next.new.self.lines c.add_line.new.below.lines added.0 added.1 in
    let long = ap length c.in-Some.ensures.lines in
    omega (arith, fewer, long)

pub returns-in-Err-NotACommand-clause-fault : goal.returns-in-Err-NotACommand-clause-fault
returns-in-Err-NotACommand-clause-fault g c =
    let script = c.args.script.now in
    let line = c.in-Some.line.now in
    let below = c.next.new.self.lines in
    let steps = map step_of c.lines.steps.items in
    let at = at-line script c.lines.below.number c.next.new.self.number c.lines.below.lines line below steps c.lines.invariant c.in-Some.ensures.lines c.next.ensures.number in
    let here = subst (λ n. IsAt script n line below steps) (sym c.number-number.ensures) at in
    let refused = subst (λ f. AddsLine steps c.number-number.result (saying line below) (map step_of c.add_line.new.steps.items) (Err f) c.add_line.new.below.lines) c.in-Err-NotACommand.field-0-is c.in-Err-NotACommand.ensures.line in
    at-unread script c.number-number.result line below steps here (unskipped line (sym c.is_skipped.ensures ∙ c.if-is_skipped.false)) refused

pub returns-in-Err-NoMemory-clause-fault : goal.returns-in-Err-NoMemory-clause-fault
returns-in-Err-NoMemory-clause-fault g c =
    let script = c.args.script.now in
    let line = c.in-Some.line.now in
    let below = c.next.new.self.lines in
    let steps = map step_of c.lines.steps.items in
    let at = at-line script c.lines.below.number c.next.new.self.number c.lines.below.lines line below steps c.lines.invariant c.in-Some.ensures.lines c.next.ensures.number in
    let here = subst (λ n. IsAt script n line below steps) (sym c.number-number.ensures) at in
    let refused = subst (λ f. AddsLine steps c.number-number.result (saying line below) (map step_of c.add_line.new.steps.items) (Err f) c.add_line.new.below.lines) c.in-Err-NoMemory.field-0-is c.in-Err-NoMemory.ensures.line in
    (c.number-number.result, at-short script c.number-number.result line below c.add_line.new.below.lines steps refused.2.0 refused.0 here refused.1 refused.2.1)

pub returns-clause-steps : goal.returns-clause-steps
returns-clause-steps g c =
    all-read c.args.script.now c.lines.below.number c.lines.below.lines (map step_of c.lines.steps.items) c.lines.invariant c.in_default.ensures.lines.0
