use Rattle.std.proofs.Common.{◌∙◌, rules}
use Rattle.mk_lines.proofs.PrefixLemmas.{AppendsPrefix-front, AppendsPrefix-more}
use Rattle.mk_escape.proofs.WrittenLemmas.{written-last}
use Rattle.mk_escape.proofs.write_name.Goals as goal

pub returns : goal.returns
returns g c = written-last c.in_ok-write_all.ensures c.in_ok-write_escaped.ensures c.write_all-2.ensures

pub returns-in_err-write_escaped : goal.returns-in_err-write_escaped
returns-in_err-write_escaped g c = record {
  whole = search rules;
  prefix = AppendsPrefix-more _ _ _ _ _ c.in_ok-write_all.ensures.whole (AppendsPrefix-front _ _ _ _ c.in_err-write_escaped.ensures.prefix);
  works = search rules;
  fault = search rules;
  unflushed = c.in_err-write_escaped.ensures.unflushed ∙ c.in_ok-write_all.ensures.unflushed;
}

pub returns-in_err-write_all : goal.returns-in_err-write_all
returns-in_err-write_all g c = record {
  whole = search rules;
  prefix = AppendsPrefix-front _ _ _ _ c.in_err-write_all.ensures.prefix;
  works = search rules;
  fault = search rules;
  unflushed = c.in_err-write_all.ensures.unflushed;
}
