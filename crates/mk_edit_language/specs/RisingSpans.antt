-- Spans that stand in order, apart and within a text, and the text cut at them: pieces that stay,
-- and pieces that are replaced.
-- Told in docs/PROOFS.md, "An edit".
use Rattle.std.specs.Prelude.{◌≡◌, ℕ, List, [], ◌∷◌, length, ◌≤◌}
use Rattle.mk_lines.specs.Pieces.{Replacement, Piece, old_bytes, new_bytes, replacements}

-- Replacements that rise from one offset to another, and do not overlap.
abbrev pub Rise : (from to : ℕ) → List Replacement → Type 0
Rise a b [] = a ≤ b
Rise a b (r ∷ rs) = (a ≤ r.start) × (r.start ≤ r.end) × Rise r.end b rs

-- A text in which these replacements, and no others, were made: they rise within the text, and the
-- text is cut into pieces, of which some stay and some are replaced, the latter at the ranges of
-- the replacements. The old bytes of the pieces are the text before, and the new bytes the text
-- after.
pub record IsReplacedAt (before after : List ℕ) (rs : List Replacement) : Type 0 where
  pub rise : Rise 0 (length before) rs
  pub pieces : List Piece
  pub old : old_bytes pieces ≡ before
  pub new : new_bytes pieces ≡ after
  pub ranges : replacements 0 pieces ≡ rs
