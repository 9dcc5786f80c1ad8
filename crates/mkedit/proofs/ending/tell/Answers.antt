use Rattle.std.proofs.Common.{rules}
use Rattle.mk_lines.proofs.PrefixLemmas.{AppendsPrefix-front}
use Rattle.mk_run.proofs.WritesLemmas.{writes-then}
use Rattle.mkedit.proofs.ending.tell.Goals as goal

pub returns : goal.returns
returns g c = writes-then c.in_ok-put_message.ensures c.write_all.ensures

pub returns-in_err-put_message : goal.returns-in_err-put_message
returns-in_err-put_message g c = record {
  whole = search rules;
  prefix = AppendsPrefix-front _ _ _ _ c.in_err-put_message.ensures.prefix;
  works = search rules;
  fault = search rules;
  unflushed = c.in_err-put_message.ensures.unflushed;
}
