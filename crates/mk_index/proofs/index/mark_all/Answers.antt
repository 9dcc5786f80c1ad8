use Rattle.std.proofs.Common.{rules}
use Rattle.mk_index.proofs.on_blocks.MarkLemmas.{three-marked}
use Rattle.mk_index.proofs.index.mark_all.Goals as goal

pub returns-clause-marked : goal.returns-clause-marked
returns-clause-marked g c = λ done.
    three-marked c.args.chains.now 0 c.args.first c.args.second c.mark.new.marks c.mark-2.new.marks (c.mark.ensures.marked (search rules)) c.mark-2.ensures.length c.mark-2.ensures.kept (c.mark-2.ensures.marked done)
