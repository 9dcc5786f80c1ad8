-- One read past what is in `text` takes no more than its buffer.
use Rattle.std.proofs.Common.{rules}
use Rattle.mk_lines.proofs.TakenLemmas.{TakesAtMost-read}
use Rattle.mk_lines.proofs.source.read_all.Goals as goal

pub returns-then-count-len-clause-taken : goal.returns-then-count-len-clause-taken
returns-then-count-len-clause-taken g c =
    TakesAtMost-read _ _ _ c.loop-text.text.items c.read.new.buf c.in_ok-count.count 16777216 8192
    (search rules) (search rules) c.in_ok-count.ensures.bytes.0 (search rules) (search rules)

pub returns-in_err-extend_from_slice-clause-taken : goal.returns-in_err-extend_from_slice-clause-taken
returns-in_err-extend_from_slice-clause-taken g c =
    TakesAtMost-read _ _ _ c.loop-text.text.items c.read.new.buf c.in_ok-count.count 16777216 8192
    (search rules) (search rules) c.in_ok-count.ensures.bytes.0 (search rules) (search rules)
