use Rattle.std.proofs.Common.{inl, sym, refl, arith}
use Rattle.mk_script.specs.Lines.{script_lines}
use Rattle.mk_script.proofs.on_fields.LinesLemmas.{lines-feed}
use Rattle.mk_script.proofs.lines.word_of_lines.Goals as goal

pub returns-in-0 : goal.returns-in-0
returns-in-0 c = rw c.in-0.is (inl refl)

pub returns-in-1 : goal.returns-in-1
returns-in-1 c = rw c.in-1.is (inl (sym c.first_line.ensures))

pub returns-in_default : goal.returns-in_default
returns-in_default c = lines-feed c.args.count (script_lines c.args.script.now) (omega arith) c.requires
