use Rattle.std.proofs.Common.{◌≡◌, sym, ap, ◌∙◌, subst, ℕ, List, Some}
use Rattle.std.specs.Prelude.{Ok}
use Rattle.std.proofs.lemmas.Bool.Decides.{Decides-eqb}
use Rattle.std.proofs.lemmas.Slice.Eq.{slice_eq-Decides}
use Rattle.mk_class.specs.ClassedLines.{classed_lines}
use Rattle.mk_history.specs.Shown.{Shown}
use Rattle.mk_session.specs.Lookups.{looked_up}
use Rattle.caller_example.specs.Migrated.{AreMigrated}
use Rattle.caller_example.proofs.MigrationLemmas.{set-migrates}
use Rattle.caller_example.proofs.migrate_nth.Goals as goal

pub returns-in_err-set_nth : goal.returns-in_err-set_nth
returns-in_err-set_nth c first h = subst (λ (z : Shown (List ℕ)). AreMigrated c.args.name.now c.args.old.now first (classed_lines z.text)) (sym c.in_err-set_nth.ensures.same) h

pub returns-in_ok-set_nth : goal.returns-in_ok-set_nth
returns-in_ok-set_nth c =
    let s = c.args.session.now.shown in
    let n = c.args.name.now in
    let v = c.args.old.now in
    let same : c.in_ok-get.field-0.now ≡ v = (slice_eq-Decides Decides-eqb _ _ _ c.eq.ensures).0 c.if-eq.true in
    let looked : looked_up s.text (Some c.args.nth) n ≡ Ok v = subst (λ z. looked_up z (Some c.args.nth) n ≡ Ok v) c.doc.ensures.bytes (c.in_ok-get.ensures.found ∙ ap Ok same) in
    set-migrates c.edits_leave_the_rest.ensures.spans c.edits_leave_the_rest.ensures.lines c.edited_lines_stand.ensures n v c.args.new.now c.args.nth s c.set_nth.new.session.shown looked c.in_ok-set_nth.ensures.done
