use Rattle.std.proofs.Common.{◌∙◌, arith, sym}
use Rattle.mk_edit.proofs.on_each_lines.EachLoops.{here-fits, read-refused, turn-begun, turn-misread, turn-on, turn-over, turn-passed, turn-refused, turn-there}
use Rattle.mk_edit.proofs.each_line_patch.exchange_in_turn.Goals.{then-is_of_turn+in_ok-line, else-is_of_turn}
use Rattle.mk_edit.proofs.each_line_patch.exchange_in_turn.Goals as goal

pub notes-init : goal.notes-init
notes-init g c = turn-begun _ _ _ _ _ c.requires.can c.requires.room

pub line_after-requires : goal.line_after-requires
line_after-requires g c = (turn-there _ _ _ _ _ _ c.args.notes.now c.notes.noted-index c.noted-item.result _ c.notes-test.true c.noted-item.is c.notes.invariant).can.0

pub returns-in_err-line-clause-read : goal.returns-in_err-line-clause-read
returns-in_err-line-clause-read g c =
    let T = turn-there _ _ _ _ _ _ c.args.notes.now c.notes.noted-index c.noted-item.result _ c.notes-test.true c.noted-item.is c.notes.invariant in
    let e = sym c.is_of_turn.ensures ∙ c.if-is_of_turn.true in
    let R = c.in_err-line.ensures.read in
    read-refused _ _ _ _ _ _ c.from_residual.ensures.1 (turn-misread _ _ _ _ _ _ _ _ _ T e _ R.refused) (turn-refused _ _ _ _ _ _ _ _ _ T e _ R.few_read) (omega (arith, T.forward, R.forward))

pub push-requires : goal.push-requires
push-requires g c =
    let T = turn-there _ _ _ _ _ _ c.args.notes.now c.notes.noted-index c.noted-item.result _ c.notes-test.true c.noted-item.is c.notes.invariant in
    here-fits _ _ _ _ _ _ _ _ _ T (sym c.is_of_turn.ensures ∙ c.if-is_of_turn.true)

pub notes-preserved : goal.notes-preserved
notes-preserved g c =
    let T = turn-there _ _ _ _ _ _ c.args.notes.now c.notes.noted-index c.noted-item.result _ c.notes-test.true c.noted-item.is c.notes.invariant in
    elim c.if-is_of_turn.branch [
      | then-is_of_turn+in_ok-line w ↦
          let R = w.in_ok-line.ensures.read in
          rw w.meter-is (turn-on _ _ _ _ _ _ _ _ _ T (sym c.is_of_turn.ensures ∙ w.if-is_of_turn.true) _ _ _ w.in_ok-line.ensures.line R.told R.counted R.few_read R.forward (w.patch-is ∙ w.push.ensures))
      | else-is_of_turn w ↦ rw w.meter-is (rw w.patch-is (turn-passed _ _ _ _ _ _ _ _ _ T (sym c.is_of_turn.ensures ∙ w.if-is_of_turn.false)))
    ]

pub returns-clause-moves : goal.returns-clause-moves
returns-clause-moves g c = (turn-over _ _ _ _ _ _ c.args.notes.now c.notes.noted-index _ c.notes-test.false c.notes.invariant).moves

pub returns-clause-read : goal.returns-clause-read
returns-clause-read g c =
    let D = turn-over _ _ _ _ _ _ c.args.notes.now c.notes.noted-index _ c.notes-test.false c.notes.invariant in
    record { told = D.told; refused = tt; counted = D.counted; few_read = D.few_read; forward = D.forward }
