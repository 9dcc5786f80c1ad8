use Rattle.mk_repl.proofs.request.request_of_named.Goals as goal

pub returns : goal.returns
returns c = c.named.ensures
