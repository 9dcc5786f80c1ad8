use Rattle.std.proofs.Common.{arith, map}
use Rattle.std.proofs.lemmas.List.{length-map}
use Rattle.mk_edit_parts.specs.EachLineWalks.{each_change_view}
use Rattle.mk_edit.specs.EachLineSurveys.{noted_view}
use Rattle.mk_edit.proofs.on_each_lines.EachLoops.{read-refused, room-first, room-second, turns-first, turns-number, turns-read, turns-second}
use Rattle.mk_edit.proofs.each_line_patch.each_line_patch.Goals as goal

pub exchange_in_turn-requires-clause-room : goal.exchange_in_turn-requires-clause-room
exchange_in_turn-requires-clause-room g c = room-first _ (map noted_view c.args.notes.now) _ _ c.in_ok-patch.ensures.empty (omega (arith, length-map c.args.notes.now noted_view))

pub returns-in_err-exchange_in_turn-clause-read : goal.returns-in_err-exchange_in_turn-clause-read
returns-in_err-exchange_in_turn-clause-read g c =
    let R = c.in_err-exchange_in_turn.ensures.read in
    read-refused _ _ _ _ _ _ c.from_residual-in_err-exchange_in_turn.ensures.1 (turns-first (each_change_view c.args.change) (map noted_view c.args.notes.now) _ R.refused)
    (omega (arith, turns-number (each_change_view c.args.change) (map noted_view c.args.notes.now), length-map c.args.notes.now noted_view, R.few_read)) R.forward

pub exchange_in_turn-requires-2-clause-room : goal.exchange_in_turn-requires-2-clause-room
exchange_in_turn-requires-2-clause-room g c = room-second _ (map noted_view c.args.notes.now) _ _ _ c.in_ok-patch.ensures.empty (omega (arith, length-map c.args.notes.now noted_view)) c.in_ok-exchange_in_turn.ensures.moves

pub returns-in_err-exchange_in_turn-2-clause-read : goal.returns-in_err-exchange_in_turn-2-clause-read
returns-in_err-exchange_in_turn-2-clause-read g c =
    let A = c.in_ok-exchange_in_turn.ensures.read in
    let R = c.in_err-exchange_in_turn-2.ensures.read in
    read-refused _ _ _ _ _ _ c.from_residual-in_err-exchange_in_turn-2.ensures.1 (turns-second (each_change_view c.args.change) (map noted_view c.args.notes.now) _ R.refused)
    (omega (arith, turns-number (each_change_view c.args.change) (map noted_view c.args.notes.now), length-map c.args.notes.now noted_view, A.few_read, R.few_read)) (omega (arith, A.forward, R.forward))

pub returns-clause-read : goal.returns-clause-read
returns-clause-read g c =
    let n = turns-number (each_change_view c.args.change) (map noted_view c.args.notes.now) in
    let A = c.in_ok-exchange_in_turn.ensures.read in
    let B = c.in_ok-exchange_in_turn-2.ensures.read in
    record {
      told = turns-read (each_change_view c.args.change) (map noted_view c.args.notes.now) A.told B.told;
      refused = tt;
      counted = omega (arith, n, length-map c.args.notes.now noted_view, A.counted, B.counted);
      few_read = omega (arith, n, length-map c.args.notes.now noted_view, A.few_read, B.few_read);
      forward = omega (arith, A.forward, B.forward);
    }
