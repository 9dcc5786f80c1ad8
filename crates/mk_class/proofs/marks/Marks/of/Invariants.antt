-- Each bit says whether its byte stands in the text as far as it was read.
use Rattle.std.proofs.Common.{◌≡◌, ℕ, ◌==◌, take}
use Rattle.std.specs.Int.{bit_at}
use Rattle.std.specs.List.{list_any}
use Rattle.mk_class.specs.Marks.{bits_of}
use Rattle.mk_class.proofs.marks.Marks.of.Given as goal

abbrev pub invariant-loop-byte : goal.invariant-loop-byte
invariant-loop-byte l = (k : ℕ) → (bit_at l.bits k == 1) ≡ list_any (λ b. bit_at (bits_of b) k == 1) (take l.byte-index l.text)
