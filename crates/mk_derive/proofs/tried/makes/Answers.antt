use Rattle.std.proofs.Common.{◌≡◌, arith, rules, subst, true, false, [], Some}
use Rattle.std.specs.Prelude.{◌==◌, vec_len}
use Rattle.std.proofs.lemmas.Bool.{eqb-true}
use Rattle.std.proofs.lemmas.Bool.Decides.{Decides-eqb}
use Rattle.std.proofs.lemmas.List.{nil_from_length}
use Rattle.std.proofs.lemmas.Slice.Eq.{slice_eq-Decides}
use Rattle.mk_run.specs.RunEnds.{IsRunOver, written}
use Rattle.mk_run.specs.declared.outcome.Outcome.TheVariants.{Done}
use Rattle.mk_derive.specs.Derived.{Makes}
use Rattle.mk_derive.proofs.DoneLemmas.{made}
use Rattle.mk_derive.proofs.tried.makes.Goals as goal
use Rattle.mk_derive.proofs.tried.makes.Goals.{then-eq, else-eq}

pub returns-in-Done : goal.returns-in-Done
returns-in-Done c = λ yes.
    let report = c.run-outcome.new.report in
    let out = c.run-outcome.new.out in
    let over : IsRunOver (Some c.args.old.now) (Some c.args.script.now) 100 false Done report.is_failed (written (Some []) (Some report.text.items)) (written (Some []) (Some out.text.items)) = search rules in
    elim c.if-eq.branch [
      | then-eq w ↦
          let read : c.as_slice.result.now ≡ c.args.new.now = (slice_eq-Decides Decides-eqb _ _ _ c.eq.ensures).0 w.if-eq.true in
          let same : out.text.items ≡ c.args.new.now = cc (read, c.as_slice.ensures.value) in
          let none : (vec_len report.text == 0) ≡ true = cc (yes, w.is_made-is, w.is_empty-is_made.ensures) in
          let zero : vec_len report.text ≡ 0 = eqb-true (vec_len report.text) 0 none in
          let empty : report.text.items ≡ [] = nil_from_length report.text.items (omega (arith, zero, report.text.ok.0)) in
          subst (Makes c.args.script.now c.args.old.now) same (made c.args.old.now c.args.script.now out.text.items report.text.items report.is_failed over empty)
      | else-eq w ↦ absurd (cc (yes, w.is_made-is, w.if-eq.false))
    ]
