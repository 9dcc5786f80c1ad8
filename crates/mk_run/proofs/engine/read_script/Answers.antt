use Rattle.std.proofs.Common.{◌∙◌, ap, map, sym, subst, inr}
use Rattle.std.specs.Prelude.{is_ok}
use Rattle.mk_lines.specs.Device.{count_if}
use Rattle.mk_run.specs.RunSteps.{StopsScript}
use Rattle.mk_run.specs.declared.outcome.Outcome.{Outcome}
use Rattle.mk_script.specs.Scripts.{step_of}
use Rattle.mk_run.proofs.on_runs.ReadLemmas.{gives-no-command, gives-steps, unread}
use Rattle.mk_run.proofs.engine.read_script.Goals as goal

pub returns-in-Err-clause-stops : goal.returns-in-Err-clause-stops
returns-in-Err-clause-stops g c =
    let bytes = g.S.ByteSource.remaining c.args.script.now in
    let failed = g.S.ByteSource.failed c.read_all.new.source in
    let says = c.read_all.ensures in
    subst (λ (o : Outcome). StopsScript bytes failed o) (sym c.from.ensures)
    (unread c.read_all.result bytes failed c.in-Err.fault c.in-Err.is (record { few = says.few; long = says.too_long; read = says.read; works = says.works })).0

pub returns-in-Ok-parse_script-clause-works : goal.returns-in-Ok-parse_script-clause-works
returns-in-Ok-parse_script-clause-works g c = c.in-Ok.ensures.works (λ no. absurd (cc))

pub returns-in-Ok-parse_script-clause-steps : goal.returns-in-Ok-parse_script-clause-steps
returns-in-Ok-parse_script-clause-steps g c =
    gives-steps (g.S.ByteSource.remaining c.args.script.now) c.in-Ok.text.len c.in-Ok.text.items c.as_slice.result.now c.in-Ok.ensures.bytes c.in-Ok.text.ok.0 c.in-Ok.ensures.within c.as_slice.ensures.value
    (map step_of c.in-Ok-parse_script.steps.items) c.in-Ok-parse_script.ensures.steps

pub returns-in-Err-NotACommand-clause-stops : goal.returns-in-Err-NotACommand-clause-stops
returns-in-Err-NotACommand-clause-stops g c = (
  c.in-Ok.ensures.works (λ no. absurd (cc)),
  gives-no-command (g.S.ByteSource.remaining c.args.script.now) c.in-Ok.text.len c.in-Ok.text.items c.as_slice.result.now c.in-Ok.ensures.bytes
      c.in-Ok.text.ok.0 c.in-Ok.ensures.within c.as_slice.ensures.value c.in-Err-NotACommand.line (rw c.in-Err-NotACommand.field-0-is at c.in-Err-NotACommand.ensures.fault),
)

pub returns-clause-stops : goal.returns-clause-stops
returns-clause-stops g c = c.in-Ok.ensures.works (λ no. absurd (cc))

pub returns-in-Ok-parse_script-clause-script : goal.returns-in-Ok-parse_script-clause-script
returns-in-Ok-parse_script-clause-script g c = record {
  taken = c.read_all.ensures.taken;
  ends_once = inr (c.read_all.ensures.ends ∙ ap (λ r. count_if (is_ok r) (g.S.ByteSource.ends c.args.script.now)) c.in-Ok.is);
}
