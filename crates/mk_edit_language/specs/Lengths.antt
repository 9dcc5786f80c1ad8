-- How many bytes replacements take out of a text, and how many they put into it.
-- Told in docs/PROOFS.md, "An edit".
use Rattle.std.specs.Prelude.{ℕ, ◌+◌, ◌-◌, List, [], ◌∷◌, length}
use Rattle.mk_lines.specs.Pieces.{Replacement}

-- the number of bytes in the ranges of the replacements
abbrev pub bytes_taken : List Replacement → ℕ
bytes_taken [] = 0
bytes_taken (r ∷ rs) = (r.end - r.start) + bytes_taken rs

-- the number of the new bytes
abbrev pub bytes_put : List Replacement → ℕ
bytes_put [] = 0
bytes_put (r ∷ rs) = length r.new + bytes_put rs
