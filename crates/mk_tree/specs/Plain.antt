-- Lines that are one physical line, and stretches of a text without stray bytes.
-- Told in docs/ARCHITECTURE.md, "The document".
use Rattle.std.specs.Prelude.{◌≡◌, ◌≢◌, ℕ, ◌-◌, ◌<◌, ◌≤◌, List, ◌∷◌, length, take, drop, slice_index}
use Rattle.mk_lines.specs.LogicalLines.{logical_lines}

-- the first logical line of a text has this many bytes
pub record IsFirstLine (text : List ℕ) (n : ℕ) : Type 0 where
  pub lines : logical_lines text ≡ take n text ∷ logical_lines (drop n text)
  pub some : 0 < n
  pub within : n ≤ length text

-- the first line feed of a text is the last of this many bytes
pub record IsOneLine (text : List ℕ) (n : ℕ) : Type 0 where
  pub none_before : (k : ℕ) → k < n - 1 → slice_index text k ≢ 10
  pub feed : slice_index text (n - 1) ≡ 10

-- from `start` up to `clean` a text has no NUL and no carriage return
abbrev pub IsClean : List ℕ → ℕ → ℕ → Type 0
IsClean text start clean =
    (k : ℕ) → start ≤ k → k < clean → (slice_index text k ≢ 0) × (slice_index text k ≢ 13)
