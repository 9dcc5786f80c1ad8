use Rattle.std.proofs.Common.{◌∙◌}
use Rattle.mk_tree.proofs.AdmissionLemmas.{context-whole, context-faithful_end}
use Rattle.mk_tree.proofs.document.Doc.end_context.Goals as goal

pub returns-clause-located : goal.returns-clause-located
returns-clause-located g c = context-whole c.self.inside.tree.0 c.args.self.now c.len.result _ c.len.ensures.len c.self.view_is c.context_before.ensures.context

pub returns-clause-context : goal.returns-clause-context
returns-clause-context g c = returns-clause-located g c ∙ context-faithful_end _ c.requires
