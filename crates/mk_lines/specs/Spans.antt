-- Spans that follow one another.
-- Told in docs/PROOFS.md, "Reading a makefile".
use Rattle.std.specs.Prelude.{◌≡◌, ℕ, ◌<◌, List, [], ◌∷◌}
use Rattle.mk_lines.specs.declared.split.Span.{Span}

-- the spans follow one another from `from` up to `to`, and none is empty
abbrev pub Tiles : List Span → ℕ → ℕ → Type 0
Tiles [] from to = from ≡ to
Tiles (span ∷ spans) from to = (span.start ≡ from) × (from < span.end) × Tiles spans span.end to
