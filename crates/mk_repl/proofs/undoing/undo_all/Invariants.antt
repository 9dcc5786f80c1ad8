-- All undos lead where they led, and no group is open.
use Rattle.std.proofs.Common.{◌≡◌, false, length}
use Rattle.std.specs.Prelude.{is_some}
use Rattle.mk_repl.specs.Reverted.{undone}
use Rattle.mk_repl.proofs.undoing.undo_all.Given as goal

abbrev pub invariant-loop-session : goal.invariant-loop-session
invariant-loop-session g l =
    (is_some l.session.shown.begun ≡ false) × (undone l.session.shown ≡ undone l.initial.session.shown)

abbrev pub decreases-loop-session : goal.decreases-loop-session
decreases-loop-session g l = length l.session.shown.back
