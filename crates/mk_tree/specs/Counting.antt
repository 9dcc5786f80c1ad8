-- The lines that a meter counts.
-- Told in docs/PROOFS.md, "Reading a makefile".
use Rattle.std.specs.Prelude.{◌≡◌, ℕ, ◌+◌, ◌-◌, ◌^◌, min}

-- `lines` lines more are counted, up to the greatest number that a meter tells
abbrev pub AreCounted : (before lines after : ℕ) → Type 0
AreCounted m n k = min k (2 ^ 64 - 1) ≡ min (m + n) (2 ^ 64 - 1)
