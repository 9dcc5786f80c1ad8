use Rattle.std.proofs.Common.{◌∙◌, arith, rules, ap, sym, Some, None, option_map}
use Rattle.mk_tree.specs.Trees.{line_view}
use Rattle.mk_edit.proofs.on_value_changes.ChangeLoops.{here-fits, turn-begun, turn-on, turn-over, turn-refused, turn-there}
use Rattle.mk_edit.proofs.change_values_patch.exchange_changed.Goals as goal
use Rattle.mk_edit.proofs.change_values_patch.exchange_changed.Goals.{in-Some, in_default}

pub places-init : goal.places-init
places-init g c = turn-begun _ _ _ _ _ c.requires.can c.requires.room

pub changed_in_turn-requires : goal.changed_in_turn-requires
changed_in_turn-requires g c = (turn-there _ _ _ _ _ _ c.args.places.now c.places.meant-index c.meant-item.result _ c.places-test.true c.meant-item.is c.places.invariant).can.0

pub returns-in_err-changed-clause-reads : goal.returns-in_err-changed-clause-reads
returns-in_err-changed-clause-reads g c =
    let T = turn-there _ _ _ _ _ _ c.args.places.now c.places.meant-index c.meant-item.result _ c.places-test.true c.meant-item.is c.places.invariant in
    let R = c.in_err-changed.ensures.reads in
    record { refused = search rules; counted = search rules; few_read = turn-refused _ _ _ _ _ _ _ _ _ T _ R.few_read; forward = omega (arith, T.forward, R.forward) }

pub push-requires : goal.push-requires
push-requires g c =
    let T = turn-there _ _ _ _ _ _ c.args.places.now c.places.meant-index c.meant-item.result _ c.places-test.true c.meant-item.is c.places.invariant in
    here-fits _ _ _ _ _ _ _ _ _ T (line_view c.in-Some.changed) _ (ap (option_map line_view) (sym c.in-Some.is) ∙ c.in_ok-changed.ensures.line)

pub places-preserved : goal.places-preserved
places-preserved g c =
    let T = turn-there _ _ _ _ _ _ c.args.places.now c.places.meant-index c.meant-item.result _ c.places-test.true c.meant-item.is c.places.invariant in
    let on = turn-on _ _ _ _ _ _ _ _ _ T in
    let made = c.in_ok-changed.ensures in
    elim c.match-changed.branch [
      | in-Some w ↦ on _ _ (Some (line_view w.in-Some.changed)) (ap (option_map line_view) (sym w.in-Some.is) ∙ made.line) made.reads.counted made.reads.few_read made.reads.forward (w.patch-is ∙ w.push.ensures)
      | in_default w ↦ on _ _ None (ap (option_map line_view) (sym w.in_default.is) ∙ made.line) made.reads.counted made.reads.few_read made.reads.forward w.patch-is
    ]

pub returns-clause-moves : goal.returns-clause-moves
returns-clause-moves g c = (turn-over _ _ _ _ _ _ c.args.places.now c.places.meant-index _ c.places-test.false c.places.invariant).moves

pub returns-clause-reads : goal.returns-clause-reads
returns-clause-reads g c =
    let D = turn-over _ _ _ _ _ _ c.args.places.now c.places.meant-index _ c.places-test.false c.places.invariant in
    record { refused = tt; counted = D.counted; few_read = D.few_read; forward = D.forward }
