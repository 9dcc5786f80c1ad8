use Rattle.std.proofs.Common.{rules, false, [], Some}
use Rattle.mk_run.specs.RunEnds.{IsRunOver, written}
use Rattle.mkedit_c.proofs.AnswerLemmas.{whole-run}
use Rattle.mkedit_c.proofs.texts.run_texts.Goals as goal

pub returns : goal.returns
returns c = λ low.
    let report = written (Some []) (Some c.run-outcome.new.report.text.items) in
    let out = written (Some []) (Some c.run-outcome.new.out.text.items) in
    let failed = c.run-outcome.new.report.is_failed in
    let over : IsRunOver (Some c.args.text.now) (Some c.args.script.now) c.args.depth false c.run-outcome.result failed report out = search rules in
    whole-run c.args.text.now c.args.script.now c.args.depth c.run-outcome.result failed report out over low
