use Rattle.std.proofs.Common.{subst, ap, length, arith}
use Rattle.mk_tree.specs.LocatedLines.{AreConditionalsFit}
use Rattle.mk_tree.proofs.AdmissionLemmas.{admitted-faithful}
use Rattle.mk_tree.proofs.document.Doc.iter.Goals as goal

pub returns-clause-admitted : goal.returns-clause-admitted
returns-clause-admitted g c =
    λ faithful. admitted-faithful c.args.self.now faithful (subst (AreConditionalsFit 0) c.self.view_is c.self.invariant.0) (omega (arith, c.new.ensures.few, ap length c.new.ensures.lines, ap length c.self.view_is))
