use Rattle.std.proofs.Common.{◌∙◌, ◌∷◌, []}
use Rattle.mk_lines.specs.Units.{units}
use Rattle.mk_class.specs.Symbols.{is_colon}
use Rattle.mk_class.specs.Scans.{is_one_byte_of}
use Rattle.mk_class.specs.TextClasses.{itself}
use Rattle.mk_class.proofs.HeaderLemmas.{any-same, is_colon-byte}
use Rattle.mk_class.proofs.header.has_colon.Goals as goal

pub returns : goal.returns
returns c = c.has_unit.ensures ∙ any-same (is_one_byte_of (58 ∷ [])) (is_colon itself) is_colon-byte (units itself c.args.text.now)
