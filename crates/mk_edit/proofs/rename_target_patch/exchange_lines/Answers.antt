use Rattle.std.proofs.Common.{◌∙◌, arith, rules, ap, sym, Some, None, map, option_map}
use Rattle.mk_tree.specs.Trees.{line_view}
use Rattle.mk_edit.specs.RenameTargetPatches.{held_view}
use Rattle.mk_edit.proofs.on_renaming.PatchLoops.{no-steps}
use Rattle.mk_edit.proofs.on_renaming.PlacesLeft.{place-at, there-can, there-fits, turn-begun, turn-broken, turn-on, turn-over}
use Rattle.mk_edit.proofs.rename_target_patch.exchange_lines.Goals as goal
use Rattle.mk_edit.proofs.rename_target_patch.exchange_lines.Goals.{in-Some, in_default}

pub returns-then-batch-eq0-clause-moves : goal.returns-then-batch-eq0-clause-moves
returns-then-batch-eq0-clause-moves g c = no-steps c.args.batch.turn c.args.from.now c.args.to.now c.args.doc.now c.args.patch.now c.args.batch.lines c.requires.lines (omega (arith, c.if-batch-eq0.true))

pub places-init : goal.places-init
places-init g c = turn-begun c.args.batch.turn c.args.from.now c.args.to.now c.args.doc.now c.args.patch.now c.args.meter.now (map held_view c.args.places.now) c.requires.can c.len-count.ensures.few c.requires.room c.requires.places

pub line_of_turn-requires : goal.line_of_turn-requires
line_of_turn-requires g c =
    let T = place-at _ _ _ _ _ _ _ c.args.places.now c.places.held-index c.held-item.result _ c.places-test.true c.held-item.is c.places.invariant in
    record { can = there-can _ _ _ _ _ _ _ _ _ _ T; tally = T.tally_is }

pub returns-in_err-renamed-clause-reads : goal.returns-in_err-renamed-clause-reads
returns-in_err-renamed-clause-reads g c =
    let T = place-at _ _ _ _ _ _ _ c.args.places.now c.places.held-index c.held-item.result _ c.places-test.true c.held-item.is c.places.invariant in
    let R = c.in_err-renamed.ensures.reads in
    record { refused = search rules; counted = search rules; few_read = turn-broken _ _ _ _ _ _ _ _ _ _ T _ R.few_read; forward = omega (arith, T.built.forward, R.forward) }

pub push-requires : goal.push-requires
push-requires g c =
    let T = place-at _ _ _ _ _ _ _ c.args.places.now c.places.held-index c.held-item.result _ c.places-test.true c.held-item.is c.places.invariant in
    there-fits _ _ _ _ _ _ _ _ _ _ T (line_view c.in-Some.renamed) _ (ap (option_map line_view) (sym c.in-Some.is) ∙ c.in_ok-renamed.ensures.line)

pub places-preserved : goal.places-preserved
places-preserved g c =
    let T = place-at _ _ _ _ _ _ _ c.args.places.now c.places.held-index c.held-item.result _ c.places-test.true c.held-item.is c.places.invariant in
    let on = turn-on _ _ _ _ _ _ _ _ _ _ T in
    let made = c.in_ok-renamed.ensures in
    elim c.match-renamed.branch [
      | in-Some w ↦ on _ _ (Some (line_view w.in-Some.renamed)) (ap (option_map line_view) (sym w.in-Some.is) ∙ made.line) made.reads.counted made.reads.few_read made.reads.forward (w.patch-is ∙ w.push.ensures)
      | in_default w ↦ on _ _ None (ap (option_map line_view) (sym w.in_default.is) ∙ made.line) made.reads.counted made.reads.few_read made.reads.forward w.patch-is
    ]

pub returns-clause-moves : goal.returns-clause-moves
returns-clause-moves g c = (turn-over _ _ _ _ _ _ _ c.args.places.now c.places.held-index _ c.places-test.false c.places.invariant).moves

pub returns-clause-reads : goal.returns-clause-reads
returns-clause-reads g c =
    let D = turn-over _ _ _ _ _ _ _ c.args.places.now c.places.held-index _ c.places-test.false c.places.invariant in
    record { refused = tt; counted = D.counted; few_read = D.few_read; forward = D.forward }
