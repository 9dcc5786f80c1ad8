use Rattle.std.proofs.Common.{refl, []}
use Rattle.mk_lines.proofs.StoredLemmas.{plain_stored}
use Rattle.mk_lines.proofs.cells.stored.Cells.plain.Goals as goal

pub returns : goal.returns
returns g c = plain_stored c.args.text.now c.requires.no_line_feed [] [] c.args.stray refl refl c.requires.stray
