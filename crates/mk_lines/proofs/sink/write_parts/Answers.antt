use Rattle.std.proofs.Common.{rules, subst, sym}
use Rattle.std.specs.Io.KnownBytes.{Appends}
use Rattle.std.proofs.KnownBytes.{Appends-trans}
use Rattle.mk_lines.specs.Device.{AppendsPrefix}
use Rattle.mk_lines.proofs.PartLemmas.{text_of_parts-more, text_of_parts-at}
use Rattle.mk_lines.proofs.PrefixLemmas.{AppendsPrefix-front, AppendsPrefix-more}
use Rattle.mk_lines.proofs.sink.write_parts.Goals as goal

pub loop-part-preserved : goal.loop-part-preserved
loop-part-preserved g c = (
  search rules,
  subst (Appends _ _) (sym (text_of_parts-more c.args.parts.now c.loop-part.part-index _ c.loop-part-test.true))
      (Appends-trans _ _ _ _ _ c.loop-part.invariant.1 c.in_ok-write_all.ensures.whole),
  search rules,
)

pub returns-in_err-write_all : goal.returns-in_err-write_all
returns-in_err-write_all g c = record {
  whole = search rules;
  prefix = subst (AppendsPrefix _ _) (sym (text_of_parts-at c.args.parts.now c.loop-part.part-index _ c.loop-part-test.true))
      (AppendsPrefix-more _ _ _ _ _ c.loop-part.invariant.1 (AppendsPrefix-front _ _ _ _ c.in_err-write_all.ensures.prefix));
  works = search rules;
  fault = search rules;
  unflushed = search rules;
}
