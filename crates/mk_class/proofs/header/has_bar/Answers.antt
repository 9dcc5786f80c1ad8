use Rattle.std.proofs.Common.{◌∙◌, ◌∷◌, [], sym}
use Rattle.mk_lines.specs.Units.{units}
use Rattle.mk_class.specs.Symbols.{is_bar}
use Rattle.mk_class.specs.Scans.{is_one_byte_of}
use Rattle.mk_class.specs.TextClasses.{itself}
use Rattle.mk_class.proofs.HeaderLemmas.{any-same, is_bar-byte}
use Rattle.mk_class.proofs.SearchLemmas.{absent-bar}
use Rattle.mk_class.proofs.CoverLemmas.{no_bar}
use Rattle.mk_class.proofs.header.has_bar.Goals as goal

pub returns-then-has_bar : goal.returns-then-has_bar
returns-then-has_bar c = c.has_unit.ensures ∙ any-same (is_one_byte_of (124 ∷ [])) (is_bar itself) is_bar-byte (units itself c.args.text.now)

pub returns-else-has_bar : goal.returns-else-has_bar
returns-else-has_bar c = c.if-has_bar.false ∙ sym (absent-bar c.args.text.now (no_bar c.args.marks c.args.text.now c.requires (sym c.has_bar.ensures ∙ c.if-has_bar.false)))
