-- The number of the line is out, and then what is said of the refusal.
use Rattle.std.proofs.Common.{◌≡◌, ◌++◌, ◌∷◌, [], rules, subst}
use Rattle.std.specs.Prelude.{decimal}
use Rattle.mk_lines.specs.Device.{Writes}
use Rattle.mk_run.specs.Report.{refusal_text}
use Rattle.mk_run.proofs.WritesLemmas.{writes-then}
use Rattle.mk_run.proofs.report.report_refusal.Goals as goal

pub returns : goal.returns
returns g c =
    let number : c.as_bytes.result.now ≡ decimal c.args.line = search rules in
    subst
    (λ digits. Writes {S = g.row.W.Denot} g.W.ByteSink.contents g.W.ByteSink.failed g.W.ByteSink.flushes c.args.out.now c.write_refusal.new.out c.write_refusal.result ((digits ++ 58 ∷ 32 ∷ []) ++ refusal_text c.args.refusal))
    number (writes-then c.in_ok-write_parts.ensures c.write_refusal.ensures)
