use Rattle.std.proofs.Common.{◌∙◌}
use Rattle.mk_tree.proofs.AdmissionLemmas.{context-faithful}
use Rattle.mk_tree.proofs.document.Doc.context.Goals as goal

pub returns-clause-context : goal.returns-clause-context
returns-clause-context g c = rw c.self.view_is at c.context_before.ensures.context ∙ context-faithful _ _ c.requires.faithful
