use Rattle.mk_lines.proofs.on_lines.FileEndLemmas.{file_line_end-first}
use Rattle.mk_lines.proofs.laws.file_ends_as_its_first_line.Goals as goal

pub returns : goal.returns
returns c text first rest h = file_line_end-first text first rest h
