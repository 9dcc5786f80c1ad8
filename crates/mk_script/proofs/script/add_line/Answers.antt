use Rattle.std.proofs.Common.{ap, sym, ◌∙◌, Some}
use Rattle.mk_script.specs.SeenFields.{field_texts}
use Rattle.mk_script.proofs.on_scripts.AddLemmas.{line-added, line-refused}
use Rattle.mk_script.proofs.script.add_line.Goals as goal

pub returns-in_err-fields-clause-line : goal.returns-in_err-fields-clause-line
returns-in_err-fields-clause-line g c =
    line-refused _ c.args.number c.args.line.now c.args.below.now.lines _ _ _ c.in_err-fields.ensures.fields c.from_residual.ensures.1

pub returns-clause-line : goal.returns-clause-line
returns-clause-line g c =
    line-added _ c.args.number c.args.line.now c.args.below.now.lines c.fields_with_blocks.new.below.lines _ _ c.add_fields.result
    (c.in_ok-fields.ensures.fields ∙ ap (λ fs. Some (field_texts fs, c.fields_with_blocks.new.below.lines)) (sym c.as_slice.ensures.value)) c.add_fields.ensures
