use Rattle.std.proofs.Common.{◌∙◌, ◌∷◌, [], sym}
use Rattle.mk_lines.specs.Units.{units}
use Rattle.mk_class.specs.Symbols.{is_hash}
use Rattle.mk_class.specs.Scans.{is_one_byte_of}
use Rattle.mk_class.specs.TextClasses.{itself}
use Rattle.mk_class.proofs.HeaderLemmas.{any-same, is_hash-byte}
use Rattle.mk_class.proofs.SearchLemmas.{absent-hash}
use Rattle.mk_class.proofs.CoverLemmas.{no_hash}
use Rattle.mk_class.proofs.scan.has_hash.Goals as goal

pub returns-then-has_hash : goal.returns-then-has_hash
returns-then-has_hash c = c.has_unit.ensures ∙ any-same (is_one_byte_of (35 ∷ [])) (is_hash itself) is_hash-byte (units itself c.args.text.now)

pub returns-else-has_hash : goal.returns-else-has_hash
returns-else-has_hash c = c.if-has_hash.false ∙ sym (absent-hash c.args.text.now (no_hash c.args.marks c.args.text.now c.requires (sym c.has_hash.ensures ∙ c.if-has_hash.false)))
