use Rattle.std.proofs.Common.{◌≡◌, ◌∙◌, sym, subst, List, ◌∷◌, [], IfSome}
use Rattle.mk_patch.specs.Moves.{Move}
use Rattle.mk_patch.specs.StepMoves.{move_of}
use Rattle.mk_patch.proofs.on_moves.StepLemmas.{first-only, first-some}
use Rattle.mk_patch.proofs.patch.Patch.only_step.Goals as goal

pub returns-then-len-eq1-clause-only : goal.returns-then-len-eq1-clause-only
returns-then-len-eq1-clause-only g c =
    subst (λ (ms : List Move). IfSome c.front.result (λ step. ms ≡ move_of step.now ∷ [])) c.self.view_is
    (first-only c.self.inside.waiting.items c.front.result c.front.ensures (sym c.len.ensures.len ∙ c.if-len-eq1.true))

pub returns-then-len-eq1-clause-none : goal.returns-then-len-eq1-clause-none
returns-then-len-eq1-clause-none g c =
    λ none one. first-some c.self.inside.waiting.items c.front.result c.front.ensures (sym c.len.ensures.len ∙ c.if-len-eq1.true) none
