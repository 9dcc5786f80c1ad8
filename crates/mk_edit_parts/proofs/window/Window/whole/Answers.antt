use Rattle.std.proofs.Common.{ap}
use Rattle.mk_class.specs.Contexts.{Context}
use Rattle.mk_edit_parts.proofs.on_finding.WindowLemmas.{window-whole}
use Rattle.mk_edit_parts.proofs.window.Window.whole.Goals as goal

pub returns : goal.returns
returns g c p =
    window-whole p _ _ (ap (λ (k : Context). record { at = 0; context = k }) c.start.ensures) c.len.ensures.number
