-- The recipe lines that have a text, as a walk counts them.
-- Told in docs/ARCHITECTURE.md, "An edit's way, from Edit to moved lines".
use Rattle.std.specs.Prelude.{ℕ, ◌+◌, Option, Some, None}
use Rattle.mk_edit_parts.specs.declared.recipe_text.Matches.{Matches}

-- the index that was found first
abbrev first_or : Option ℕ → ℕ → ℕ
first_or None at = at
first_or (Some first) at = first

-- what is found with one more line
abbrev pub with_match : Matches → (at : ℕ) → Matches
with_match m at = record { first = Some (first_or m.first at); count = m.count + 1 }
