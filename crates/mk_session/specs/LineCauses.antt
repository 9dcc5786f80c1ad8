-- The causes that the line of an address decides.
-- Told in docs/EDITS.md, "Refusals".
use Rattle.std.specs.Prelude.{ℕ, List, [], ◌∷◌, Option, Some, Result}
use Rattle.mk_class.specs.ClassedLines.{ClassedLine}
use Rattle.mk_edit_language.specs.Addresses.{Address, found}
use Rattle.mk_edit_language.specs.AddressCauses.{unread_prefix, no_such_line, ambiguous_line}
use Rattle.mk_edit_language.specs.Refusals.{first_cause}
use Rattle.mk_edit_language.specs.declared.refusal.Refusal.{Refusal}
use Rattle.mk_session.specs.Indices.{index_unless}

-- in their order
abbrev line_causes : List ClassedLine → Address → List (Option Refusal)
line_causes ls a = unread_prefix ls ∷ no_such_line ls (Some a) ∷ ambiguous_line ls (Some a) ∷ []

-- the index of the line that an address means, or the first of these causes that holds
abbrev pub line_index : List ClassedLine → Address → Result ℕ Refusal
line_index ls a = index_unless (first_cause (line_causes ls a)) (found ls a)
