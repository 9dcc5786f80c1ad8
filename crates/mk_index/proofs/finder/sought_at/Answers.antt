use Rattle.mk_index.proofs.on_effects.EndLemmas.{end-sought}
use Rattle.mk_index.proofs.finder.sought_at.Goals as goal

pub returns : goal.returns
returns g c = end-sought c.args.doc.now c.args.end c.len.result c.requires.faithful c.requires.end c.len.ensures.number
