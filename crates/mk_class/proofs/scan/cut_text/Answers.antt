use Rattle.std.proofs.Common.{◌∙◌, ◌∷◌, [], ap, not, sym}
use Rattle.mk_lines.specs.Lists.{leading}
use Rattle.mk_lines.specs.Units.{units}
use Rattle.mk_class.specs.CutTexts.{is_no_hash}
use Rattle.mk_class.specs.Scans.{is_other}
use Rattle.mk_class.specs.TextClasses.{itself}
use Rattle.mk_class.proofs.ScanLemmas.{after_leading-same, leading-before}
use Rattle.mk_class.proofs.HeaderLemmas.{is_hash-byte}
use Rattle.mk_class.proofs.SearchLemmas.{absent-comment}
use Rattle.mk_class.proofs.CoverLemmas.{no_hash}
use Rattle.mk_class.proofs.scan.cut_text.Goals as goal

pub returns : goal.returns
returns c =
    c.before-2.ensures.units (leading (is_no_hash itself) (units itself c.args.text.now))
    (leading-before (is_no_hash itself) c.args.text.now c.from_unit.result.now
    (c.from_unit.ensures.rest ∙ after_leading-same (is_other (35 ∷ [])) (is_no_hash itself) (λ u. ap not (is_hash-byte u)) (units itself c.args.text.now)))

pub returns-then-not-has_hash : goal.returns-then-not-has_hash
returns-then-not-has_hash c = absent-comment c.args.text.now (no_hash c.args.marks c.args.text.now c.requires (sym c.has_hash.ensures ∙ c.if-not-has_hash.true))
