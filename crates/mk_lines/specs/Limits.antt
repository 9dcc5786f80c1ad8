-- The limit of a text.
-- Told in docs/LANGUAGE.md, "Lines".
use Rattle.std.specs.Prelude.{ℕ, ◌^◌}

-- the most bytes that a text may have: this project's profile
abbrev pub max_text : ℕ
max_text = 2 ^ 24
