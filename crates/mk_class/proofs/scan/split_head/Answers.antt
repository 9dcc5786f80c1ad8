use Rattle.std.proofs.Common.{◌∙◌, ◌∷◌, [], sym}
use Rattle.mk_lines.specs.Lists.{leading}
use Rattle.mk_lines.specs.Units.{units}
use Rattle.mk_class.specs.CutTexts.{is_in_head}
use Rattle.mk_class.specs.Scans.{is_other}
use Rattle.mk_class.specs.TextClasses.{itself}
use Rattle.mk_class.proofs.ScanLemmas.{after_leading-same, leading-before}
use Rattle.mk_class.proofs.HeaderLemmas.{is_in_head-byte}
use Rattle.mk_class.proofs.SearchLemmas.{absent-head, absent-after_head}
use Rattle.mk_class.proofs.CoverLemmas.{no_head_end}
use Rattle.mk_class.proofs.scan.split_head.Goals as goal

pub returns-clause-tail : goal.returns-clause-tail
returns-clause-tail c = c.from_any-tail.ensures.rest ∙ after_leading-same (is_other (59 ∷ 35 ∷ [])) (is_in_head itself) is_in_head-byte (units itself c.args.text.now)

pub returns-clause-head : goal.returns-clause-head
returns-clause-head c =
    c.before-2.ensures.units (leading (is_in_head itself) (units itself c.args.text.now))
    (leading-before (is_in_head itself) c.args.text.now c.from_any-tail.result.now
    (c.from_any-tail.ensures.rest ∙ after_leading-same (is_other (59 ∷ 35 ∷ [])) (is_in_head itself) is_in_head-byte (units itself c.args.text.now)))

pub returns-then-not-has_end_of_head-clause-head : goal.returns-then-not-has_end_of_head-clause-head
returns-then-not-has_end_of_head-clause-head c = absent-head c.args.text.now (no_head_end c.args.marks c.args.text.now c.requires (sym c.has_end_of_head.ensures ∙ c.if-not-has_end_of_head.true))

pub returns-then-not-has_end_of_head-clause-tail : goal.returns-then-not-has_end_of_head-clause-tail
returns-then-not-has_end_of_head-clause-tail c = absent-after_head c.args.text.now (no_head_end c.args.marks c.args.text.now c.requires (sym c.has_end_of_head.ensures ∙ c.if-not-has_end_of_head.true))
