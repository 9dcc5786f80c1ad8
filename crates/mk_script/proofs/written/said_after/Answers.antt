use Rattle.std.proofs.Common.{rules}
use Rattle.mk_script.specs.WrittenLines.{fields_in}
use Rattle.mk_script.proofs.on_written.CommandTexts.{said-more}
use Rattle.mk_script.proofs.written.said_after.Goals as goal

pub returns : goal.returns
returns g c =
    said-more c.args.nth c.args.word.now (fields_in c.args.first.now) (fields_in c.args.others.now) c.in_ok-line.line.items c.push_fields.new.line.items c.push_fields-2.new.line.items _
    c.in_ok-line.ensures c.in_ok-push_fields.ensures c.in_ok-push_fields-2.ensures (search rules)
