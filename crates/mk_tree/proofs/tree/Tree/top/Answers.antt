use Rattle.mk_tree.proofs.Nodes.{top-of_link}
use Rattle.mk_tree.proofs.tree.Tree.top.Goals as goal

pub returns-in-Full : goal.returns-in-Full
returns-in-Full g c = record { top = top-of_link c.self.inside.link _ _ _ _ _ c.in-Full.is c.self.invariant c.self.view_is }
