-- What follows the reference is what follows it from here on.
use Rattle.std.proofs.Common.{◌≡◌, ◌+◌, ◌≤◌, length}
use Rattle.mk_lines.specs.UnitWalk.{after_close}
use Rattle.mk_lines.proofs.unit.after_close.Given as goal

abbrev pub invariant-loop-rest : goal.invariant-loop-rest
invariant-loop-rest l = record {
  within : l.depth + length l.rest ≤ length l.text;
  same : after_close l.opening l.closing 0 l.text ≡ after_close l.opening l.closing l.depth l.rest;
}

abbrev pub decreases-loop-rest : goal.decreases-loop-rest
decreases-loop-rest l = length l.rest
