-- The text so far, and that of the lines still to come, are the whole.
use Rattle.std.proofs.Common.{◌≡◌, ◌++◌, drop}
use Rattle.mk_diff.specs.HunkTexts.{signed_lines}
use Rattle.mk_diff.specs.Stretches.{shown}
use Rattle.mk_diff.proofs.hunk.put_lines.Given as goal

abbrev pub invariant-loop-line : goal.invariant-loop-line
invariant-loop-line g l =
    l.text.items ++ signed_lines l.sign (shown (drop l.line-index l.lines))
    ≡ l.initial.text.items ++ signed_lines l.sign (shown l.lines)
