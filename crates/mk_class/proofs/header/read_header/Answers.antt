use Rattle.std.proofs.Common.{◌∙◌, sym}
use Rattle.mk_lines.specs.Units.{units}
use Rattle.mk_class.specs.Separators.{separated}
use Rattle.mk_class.specs.TextClasses.{itself}
use Rattle.mk_class.proofs.HeaderPartLemmas.{rough-unreadable, rough-parts, header-read}
use Rattle.mk_class.proofs.header.read_header.Goals as goal

pub returns-then-has_unreadable : goal.returns-then-has_unreadable
returns-then-has_unreadable c us h k = rough-unreadable us (units itself c.args.head.now) h (sym c.has_unreadable.ensures ∙ c.if-has_unreadable.true)

pub returns-then-is_rough : goal.returns-then-is_rough
returns-then-is_rough c us h k =
    rough-parts us (units itself c.args.head.now) (separated itself (units itself c.args.head.now)).colons c.head_parts-parts.result (units itself c.args.tail.now) h k
    (sym c.has_unreadable.ensures ∙ c.if-has_unreadable.false) (c.head_parts-parts.ensures.parts (units itself c.args.tail.now)) (sym c.is_rough.ensures ∙ c.if-is_rough.true)

pub returns : goal.returns
returns c us h k =
    header-read us c.args.head.now c.head_parts-parts.result (units itself c.args.tail.now) c.begins_recipe.result h k (sym c.has_unreadable.ensures ∙ c.if-has_unreadable.false)
    (c.head_parts-parts.ensures.parts (units itself c.args.tail.now)) (sym c.is_rough.ensures ∙ c.if-is_rough.false) c.head_parts-parts.ensures.offsets c.begins_recipe.ensures
