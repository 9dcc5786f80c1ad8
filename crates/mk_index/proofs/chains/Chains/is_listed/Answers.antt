use Rattle.std.proofs.Common.{◌∙◌, sym}
use Rattle.mk_index.proofs.on_chains.ChainLemmas.{numbered-mentioned}
use Rattle.mk_index.proofs.chains.Chains.is_listed.Goals as goal

pub returns-then-entry-block : goal.returns-then-entry-block
returns-then-entry-block g c = λ ms h t. numbered-mentioned ms c.args.self.now c.entries.number c.in-Some.entry c.args.hash c.args.block h (sym c.entry.ensures ∙ c.in-Some.is) c.if-entry-hash.true c.if-entry-block.true
