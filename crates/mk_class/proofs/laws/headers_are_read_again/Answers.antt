use Rattle.mk_class.proofs.on_headers.HeadersAgain.{header-again}
use Rattle.mk_class.proofs.laws.headers_are_read_again.Goals as goal

pub returns : goal.returns
returns c = header-again (λ b. b)
