use Rattle.mk_class.proofs.on_headers.HeadersWhole.{header-whole}
use Rattle.mk_class.proofs.laws.headers_are_whole.Goals as goal

pub returns : goal.returns
returns c = header-whole (λ b. b)
