use Rattle.mk_class.proofs.on_headers.HeaderFitsLemmas.{header-fits}
use Rattle.mk_class.proofs.laws.headers_fit.Goals as goal

pub returns : goal.returns
returns c = header-fits (λ b. b)
