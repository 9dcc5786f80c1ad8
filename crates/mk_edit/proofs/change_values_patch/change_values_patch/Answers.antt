use Rattle.std.proofs.Common.{◌∙◌, arith, rules, map}
use Rattle.std.proofs.lemmas.List.{length-map}
use Rattle.mk_edit.specs.ChangeValuesSurveys.{meant_view}
use Rattle.mk_edit.specs.ValueChangeLines.{change_view}
use Rattle.mk_edit.proofs.on_value_changes.ChangeLoops.{both-turns, room-first, room-second, turns-number}
use Rattle.mk_edit.proofs.change_values_patch.change_values_patch.Goals as goal

pub exchange_changed-requires-clause-room : goal.exchange_changed-requires-clause-room
exchange_changed-requires-clause-room g c = room-first _ (map meant_view c.args.places.now) _ _ c.in_ok-patch.ensures.empty (omega (arith, length-map c.args.places.now meant_view))

pub exchange_changed-requires-2-clause-room : goal.exchange_changed-requires-2-clause-room
exchange_changed-requires-2-clause-room g c = room-second _ (map meant_view c.args.places.now) _ _ _ c.in_ok-patch.ensures.empty (omega (arith, length-map c.args.places.now meant_view)) c.in_ok-exchange_changed.ensures.moves

pub returns-in_err-exchange_changed-clause-reads : goal.returns-in_err-exchange_changed-clause-reads
returns-in_err-exchange_changed-clause-reads g c =
    record { refused = search rules; counted = search rules; few_read = omega (arith, turns-number (change_view c.args.change) (map meant_view c.args.places.now), length-map c.args.places.now meant_view, c.in_err-exchange_changed.ensures.reads.few_read); forward = omega (arith, c.in_err-exchange_changed.ensures.reads.forward) }

pub returns-in_err-exchange_changed-2-clause-reads : goal.returns-in_err-exchange_changed-2-clause-reads
returns-in_err-exchange_changed-2-clause-reads g c =
    record {
      refused = search rules;
      counted = search rules;
      few_read = omega (arith, turns-number (change_view c.args.change) (map meant_view c.args.places.now), length-map c.args.places.now meant_view, c.in_ok-exchange_changed.ensures.reads.few_read, c.in_err-exchange_changed-2.ensures.reads.few_read);
      forward = omega (arith, c.in_ok-exchange_changed.ensures.reads.forward, c.in_err-exchange_changed-2.ensures.reads.forward);
    }

pub returns-clause-moves : goal.returns-clause-moves
returns-clause-moves g c = c.finish.ensures ∙ both-turns _ (map meant_view c.args.places.now) _ _ _ _ c.in_ok-patch.ensures.empty c.in_ok-exchange_changed.ensures.moves c.in_ok-exchange_changed-2.ensures.moves

pub returns-clause-reads : goal.returns-clause-reads
returns-clause-reads g c =
    record {
      refused = tt;
      counted = omega (arith, turns-number (change_view c.args.change) (map meant_view c.args.places.now), length-map c.args.places.now meant_view, c.in_ok-exchange_changed.ensures.reads.counted, c.in_ok-exchange_changed-2.ensures.reads.counted);
      few_read = omega (arith, turns-number (change_view c.args.change) (map meant_view c.args.places.now), length-map c.args.places.now meant_view, c.in_ok-exchange_changed.ensures.reads.few_read, c.in_ok-exchange_changed-2.ensures.reads.few_read);
      forward = omega (arith, c.in_ok-exchange_changed.ensures.reads.forward, c.in_ok-exchange_changed-2.ensures.reads.forward);
    }
