use Rattle.std.proofs.Common.{refl}
use Rattle.mk_class.proofs.ReadingLemmas.{class-read, line-if, line-fits, line-admits}
use Rattle.mk_class.proofs.reading.class_of_text.Goals as goal

pub returns-then-is_too_deep-clause-fault : goal.returns-then-is_too_deep-clause-fault
returns-then-is_too_deep-clause-fault c =
    let k = class-read c.args.context c.args.line.now c.args.text.now c.leads.result c.args.unreadable c.text_class-class.result c.requires.text c.leads.ensures
    c.requires.unreadable c.text_class-class.ensures in
    let d = c.is_too_deep.ensures.deep c.if-is_too_deep.true in
    (refl, (line-if c.args.context c.args.line.now c.text_class-class.result k d.0, d.1))

pub step-requires : goal.step-requires
step-requires c =
    let k = class-read c.args.context c.args.line.now c.args.text.now c.leads.result c.args.unreadable c.text_class-class.result c.requires.text c.leads.ensures
    c.requires.unreadable c.text_class-class.ensures in
    line-admits c.args.context c.args.line.now c.text_class-class.result k (c.is_too_deep.ensures.fits c.if-is_too_deep.false) c.requires.defines

pub returns-clause-class : goal.returns-clause-class
returns-clause-class c =
    let k = class-read c.args.context c.args.line.now c.args.text.now c.leads.result c.args.unreadable c.text_class-class.result c.requires.text c.leads.ensures
    c.requires.unreadable c.text_class-class.ensures in
    (k, c.step.ensures.class _ k, line-fits c.args.context c.args.line.now c.text_class-class.result k (c.is_too_deep.ensures.fits c.if-is_too_deep.false))
