use Rattle.mk_run.proofs.outcome.write_not_a_command.Goals as goal

pub returns : goal.returns
returns g c = let e = c.as_bytes-line.ensures.value in let f = c.format.ensures.text in rw (e, f) at c.write_parts.ensures
