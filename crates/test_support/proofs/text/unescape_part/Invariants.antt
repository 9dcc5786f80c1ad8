-- Each turn leaves fewer bytes.
use Rattle.std.proofs.Common.{length}
use Rattle.test_support.proofs.text.unescape_part.Given as goal

abbrev pub decreases-bytes : goal.decreases-bytes
decreases-bytes l = length l.rest
