-- Where a new line goes in a document, and the causes of refusal that its place decides.
-- Told in docs/ARCHITECTURE.md, "An edit's way, from Edit to moved lines".
use Rattle.std.specs.Prelude.{◌≡◌, ◌+◌, ℕ, Bool, true, false, if◌then◌else◌, List, [], ◌∷◌, length, Option, Some, None}
use Rattle.mk_lines.specs.LogicalLines.{is_open}
use Rattle.mk_lines.specs.PhysicalLines.{line_end_bytes, file_line_end}
use Rattle.mk_class.specs.ClassedLines.{classed_lines}
use Rattle.mk_tree.specs.LocatedLines.{LocatedLine, located_text}
use Rattle.mk_edit_language.specs.Edits.{Place, Bottom, NewLine, Edit, AddLine, AddRecipe}
use Rattle.mk_edit_language.specs.EditSpans.{spans_of}
use Rattle.mk_edit_language.specs.LineCauses.{open_line, open_define, leaning, too_long}
use Rattle.mk_edit_language.specs.Refusals.{causes, first_cause}
use Rattle.mk_edit_language.specs.declared.refusal.Refusal.{Refusal}
use Rattle.mk_edit.specs.PlannedMoves.{follows_unended}

-- an edit that puts a line in
abbrev pub IsOfNewLine : Edit → Type 0
IsOfNewLine (AddLine p l) = Unit {0}
IsOfNewLine (AddRecipe nth t p c) = Unit {0}
IsOfNewLine e = ⊥

-- an edit puts a line in at this place
pub record IsOfPlace (p : Place) (e : Edit) : Type 0 where
  pub line : NewLine
  pub is : e ≡ AddLine p line

-- whether a place is the end of the text
abbrev pub is_bottom : Place → Bool
is_bottom Bottom = true
is_bottom p = false

-- whether an edit puts a line in at the end of the text
abbrev pub is_at_bottom : Edit → Bool
is_at_bottom (AddLine p l) = is_bottom p
is_at_bottom e = false

-- the causes that the place of a new line decides, in their order
abbrev pub place_causes : (text : List ℕ) → Edit → List (Option Refusal)
place_causes t e =
    let ls = classed_lines t in
    open_line ls e ∷ open_define ls e ∷ leaning ls e ∷ too_long t (spans_of t ls e) ∷ []

-- The first cause of an edit that holds is one that the place of its new line decides, or no cause
-- holds.
abbrev pub IsDecidedByPlace : (text : List ℕ) → Edit → Type 0
IsDecidedByPlace t e = first_cause (causes t (classed_lines t) e) ≡ first_cause (place_causes t e)

-- whether a line is open; false if there is no line
abbrev pub is_open_line : Option LocatedLine → Bool
is_open_line None = false
is_open_line (Some l) = is_open l.bytes

-- how many bytes the line ends have that come with a line put in at a place: its own, and the line
-- end that a last line without one gets
abbrev pub ends_length : List LocatedLine → (at : ℕ) → ℕ
ends_length ls at =
    let n = length (line_end_bytes (file_line_end (located_text ls))) in
    if follows_unended ls at then n + n else n
