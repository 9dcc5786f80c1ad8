use Rattle.std.proofs.Common.{sym, subst}
use Rattle.mk_run.specs.RunSteps.{StopsMakefile}
use Rattle.mk_run.specs.declared.outcome.Outcome.{Outcome}
use Rattle.mk_run.proofs.on_runs.ReadLemmas.{unread}
use Rattle.mk_run.proofs.engine.open_makefile.Goals as goal

pub returns-in-Err-clause-stops : goal.returns-in-Err-clause-stops
returns-in-Err-clause-stops g c =
    let bytes = g.R.ByteSource.remaining c.args.makefile.now in
    let failed = g.R.ByteSource.failed c.read_all.new.source in
    let says = c.read_all.ensures in
    subst (λ (o : Outcome). StopsMakefile bytes failed o) (sym c.from.ensures)
    (unread c.read_all.result bytes failed c.in-Err.fault c.in-Err.is (record { few = says.few; long = says.too_long; read = says.read; works = says.works })).1
