use Rattle.mk_lines.specs.Units.{units}
use Rattle.mk_class.specs.TextClasses.{itself}
use Rattle.mk_class.proofs.ScanLemmas.{width-units}
use Rattle.mk_class.proofs.HeaderPartLemmas.{head_parts-made, head_parts-fit, sums-same, no_third}
use Rattle.mk_class.proofs.CoverLemmas.{cover-separated, cover-targets, cover-pattern, cover-order_only}
use Rattle.mk_class.proofs.header.head_parts.Goals as goal

pub returns-clause-parts : goal.returns-clause-parts
returns-clause-parts c tail =
    head_parts-made (units itself c.args.head.now) c.args.split.separator (units itself c.args.split.from.now) (units itself c.args.split.rest.now)
    (units itself c.before-2.result.now) c.split_pattern-has_pattern.result.0 (units itself c.split_pattern-has_pattern.result.1.now) (units itself c.split_pattern-has_pattern.result.2.now)
    (units itself c.split_order_only-has_order_only.result.0.now) c.split_order_only-has_order_only.result.1 (units itself c.split_order_only-has_order_only.result.2.now) tail
    c.requires.parts c.before-2.ensures.units c.split_pattern-has_pattern.ensures c.split_order_only-has_order_only.ensures

pub returns-clause-offsets : goal.returns-clause-offsets
returns-clause-offsets c =
    sums-same _ _ _ _ _ _ _ _ _ _ _ (width-units c.args.head.now) (width-units c.split_pattern-has_pattern.result.2.now) (
    head_parts-fit (units itself c.args.head.now) c.args.split.separator (units itself c.args.split.from.now) (units itself c.args.split.rest.now)
    (units itself c.before-2.result.now) c.split_pattern-has_pattern.result.0 (units itself c.split_pattern-has_pattern.result.1.now) (units itself c.split_pattern-has_pattern.result.2.now)
    (units itself c.split_order_only-has_order_only.result.0.now) c.split_order_only-has_order_only.result.1 (units itself c.split_order_only-has_order_only.result.2.now)
    c.requires.parts c.before-2.ensures.units c.split_pattern-has_pattern.ensures c.split_order_only-has_order_only.ensures
    )

pub split_order_only-has_order_only-requires : goal.split_order_only-has_order_only-requires
split_order_only-has_order_only-requires c =
    let r = cover-separated c.args.marks c.args.head.now c.args.split.from.now c.args.split.rest.now c.args.split.separator c.requires.parts c.requires.marks in
    (cover-pattern c.args.marks c.args.split.rest.now c.split_pattern-has_pattern.result.1.now c.split_pattern-has_pattern.result.2.now c.split_pattern-has_pattern.result.0 c.split_pattern-has_pattern.ensures r).1

pub returns-clause-marks : goal.returns-clause-marks
returns-clause-marks c =
    let r = cover-separated c.args.marks c.args.head.now c.args.split.from.now c.args.split.rest.now c.args.split.separator c.requires.parts c.requires.marks in
    let p = cover-pattern c.args.marks c.args.split.rest.now c.split_pattern-has_pattern.result.1.now c.split_pattern-has_pattern.result.2.now c.split_pattern-has_pattern.result.0 c.split_pattern-has_pattern.ensures r in (
      cover-targets c.args.marks c.args.head.now c.args.split.from.now c.args.split.rest.now c.before-2.result.now c.args.split.separator c.requires.parts c.before-2.ensures.units c.requires.marks,
      p.0,
      cover-order_only c.args.marks c.split_pattern-has_pattern.result.2.now c.split_order_only-has_order_only.result.0.now c.split_order_only-has_order_only.result.2.now c.split_order_only-has_order_only.result.1
          c.split_order_only-has_order_only.ensures p.1,
    )

pub returns-clause-colons : goal.returns-clause-colons
returns-clause-colons c =
    no_third (units itself c.args.split.rest.now) c.split_pattern-has_pattern.result.0 (units itself c.split_pattern-has_pattern.result.1.now) (units itself c.split_pattern-has_pattern.result.2.now)
    (units itself c.split_order_only-has_order_only.result.0.now) c.split_order_only-has_order_only.result.1 (units itself c.split_order_only-has_order_only.result.2.now)
    c.split_pattern-has_pattern.ensures c.split_order_only-has_order_only.ensures
