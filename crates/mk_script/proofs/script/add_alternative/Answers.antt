use Rattle.std.proofs.Common.{[], map}
use Rattle.mk_script.specs.CommandReading.{edit_in}
use Rattle.mk_script.specs.Scripts.{step_of}
use Rattle.mk_script.specs.SeenFields.{field_texts}
use Rattle.mk_script.proofs.on_scripts.AddLemmas.{first-refused, below-left, put-below, last-mapped, none-left}
use Rattle.mk_script.proofs.script.add_alternative.Goals as goal

pub returns-in_default : goal.returns-in_default
returns-in_default g c =
    first-refused _ c.args.number (edit_in (field_texts c.args.rest.now)) [] (none-left step_of _ _ _ c.in_default.ensures.items c.in_default.ensures.cases.0 c.in_default.ensures.rest)

pub returns-in_err-step : goal.returns-in_err-step
returns-in_err-step g c =
    below-left _ (map step_of c.pop.new.self.items) (step_of c.in-Some.last) c.args.number _ _ _ _ (last-mapped step_of _ c.pop.new.self.items c.in-Some.last c.in-Some.ensures.items)
    c.from_residual.ensures.1 (c.in_err-step.ensures (map step_of c.pop.new.self.items))

pub returns : goal.returns
returns g c =
    put-below step_of _ c.pop.new.self.items c.push.new.values.items (step_of c.in-Some.last) c.in_ok-step.step c.args.number _ c.push.result
    (last-mapped step_of _ c.pop.new.self.items c.in-Some.last c.in-Some.ensures.items) (c.in_ok-step.ensures (map step_of c.pop.new.self.items)) c.push.ensures
