use Rattle.mk_lines.proofs.StackLemmas.{search-stray}
use Rattle.mk_lines.proofs.cells.stored.first_stray_byte.Goals as goal

pub returns-clause-some : goal.returns-clause-some
returns-clause-some c = search-stray c.args.text.now c.memchr3.result c.memchr3.ensures
