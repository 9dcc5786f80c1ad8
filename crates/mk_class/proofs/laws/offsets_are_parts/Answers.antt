use Rattle.std.proofs.Common.{refl}
use Rattle.mk_lines.specs.Cells.{joined_byte}
use Rattle.mk_class.specs.ClassTable.{class_of}
use Rattle.mk_class.specs.LocatedClasses.{located_class}
use Rattle.mk_class.proofs.on_classes.LinePartLemmas.{line-parts_located}
use Rattle.mk_class.proofs.laws.offsets_are_parts.Goals as goal

pub returns : goal.returns
returns c = λ context line. line-parts_located context line (located_class joined_byte (class_of context line)) refl
