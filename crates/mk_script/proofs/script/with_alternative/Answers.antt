use Rattle.std.proofs.Common.{◌++◌, ◌∷◌, [], refl, map, arith}
use Rattle.mk_script.specs.CommandReading.{edit_in}
use Rattle.mk_script.specs.Scripts.{numbered_edit, step_of}
use Rattle.mk_script.specs.SeenFields.{field_texts}
use Rattle.mk_script.proofs.on_scripts.AddLemmas.{alternative-put, below-not-read, below-refused, some-put}
use Rattle.mk_script.proofs.script.with_alternative.Goals as goal

pub returns-in_default : goal.returns-in_default
returns-in_default g c =
    λ above. below-refused (above ++ step_of c.args.step ∷ []) above (step_of c.args.step) c.args.number (edit_in (field_texts c.args.rest.now)) [] refl c.in_default.ensures

pub returns-in_err-push_edit : goal.returns-in_err-push_edit
returns-in_err-push_edit g c =
    λ above. below-not-read step_of above (step_of c.args.step) (numbered_edit c.in-Some.first) (map numbered_edit c.in-Some.others.items) c.args.number (edit_in (field_texts c.args.rest.now)) _ _
    c.in-Some.ensures c.from_residual.ensures.1 c.in_err-push_edit.ensures

pub returns : goal.returns
returns g c =
    λ above. alternative-put above (step_of c.args.step) (numbered_edit c.in-Some.first) (map numbered_edit c.in-Some.others.items) (map numbered_edit c.push_edit.new.edits.items) c.args.number
    (edit_in (field_texts c.args.rest.now)) c.in-Some.ensures c.in_ok-push_edit.ensures

pub invariant_of-result : goal.invariant_of-result
invariant_of-result g c =
    let more = some-put numbered_edit (map numbered_edit c.in-Some.others.items) c.push_edit.new.edits.items c.args.number (edit_in (field_texts c.args.rest.now)) c.in_ok-push_edit.ensures in
    record { some = omega arith }
