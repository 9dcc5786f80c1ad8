-- What an edit of one place leaves: the lines that stand in the place of those that it touches, and
-- the lines above and below, with their classes.
-- Told in docs/PROOFS.md, "An edit".
use Rattle.std.specs.Prelude.{ℕ, List, [], ◌∷◌, ◌++◌, length, ◌+◌, ◌≤◌, ◌≡◌, Option, Some, None}
use Rattle.mk_lines.specs.Pieces.{Replacement, replaced}
use Rattle.mk_class.specs.ClassedLines.{ClassedLine, classed, classed_lines}
use Rattle.mk_tree.specs.Documents.{text_of, context_of, most_conditionals, AreUnconditional}
use Rattle.mk_edit_language.specs.Edits.{Edit, AddLine, AddRecipe, RemoveLines, Every, ChangeValue, RenameTarget, ExchangeLines, EachLine}
use Rattle.mk_edit_language.specs.Stretches.{Stretch, IsStretchOf, insertion, touched_by}
use Rattle.mk_edit_language.specs.NewLines.{new_text, new_line_end}
use Rattle.mk_edit_language.specs.Costs.{size, cost}
use Rattle.mk_edit_language.specs.RisingSpans.{Rise}
use Rattle.mk_lines.specs.PhysicalLines.{file_line_end}
use Rattle.mk_tree.specs.NewLineEnds.{above_ended}
use Rattle.mk_edit_language.specs.Refusals.{text_after}

-- ---- the lines after an edit of one place

-- the bytes of a new line put there, with the file's line end
abbrev pub new_line_bytes : (text : List ℕ) → Edit → (touched : Stretch) → List ℕ
new_line_bytes t e s = new_text (context_of s.above).prefix e ++ new_line_end t

-- the touched lines with the spans in them replaced
abbrev pub respanned_bytes : (touched : Stretch) → List Replacement → List ℕ
respanned_bytes s rs = replaced (length (text_of s.above)) (text_of s.lines) rs

-- The bytes of each line that stands there after the edit: no line if the edit takes lines out; the
-- new line if it puts one in; and otherwise the touched line with the spans in it replaced.
abbrev pub edited_bytes : (text : List ℕ) → Edit → (touched : Stretch) → List Replacement
    → List (List ℕ)
edited_bytes t (RemoveLines r) s rs = []
edited_bytes t (AddLine p l) s rs = new_line_bytes t (AddLine p l) s ∷ []
edited_bytes t (AddRecipe nth g p c) s rs = new_line_bytes t (AddRecipe nth g p c) s ∷ []
edited_bytes t e s rs = respanned_bytes s rs ∷ []

-- the edited lines, with the classes that they have below the lines above
abbrev pub edited_lines : (text : List ℕ) → Edit → (touched : Stretch) → List Replacement
    → List ClassedLine
edited_lines t e s rs = classed (context_of s.above) (edited_bytes t e s rs)

-- ---- the lines that it touches

-- Replacements that stand within a stretch of lines of the text; it has at most as many lines as
-- the edit's size says.
pub record TouchFew (t : List ℕ) (e : Edit) (rs : List Replacement) : Type 0 where
  pub touched : Stretch
  pub stretch : IsStretchOf (classed_lines t) touched
  pub within : Rise (length (text_of touched.above))
      (length (text_of touched.above) + length (text_of touched.lines)) rs
  pub few : length touched.lines ≤ size t e

-- an edit of one place: any edit except a rename, a change of every value of a name and an edit of
-- several lines that is checked by reading, which may touch lines that stand apart, and an exchange
-- of whole lines
abbrev pub IsOfOnePlace : Edit → Type 0
IsOfOnePlace (ChangeValue Every n c) = ⊥
IsOfOnePlace (RenameTarget o n) = ⊥
IsOfOnePlace (ExchangeLines s ts) = ⊥
IsOfOnePlace (EachLine e) = ⊥
IsOfOnePlace e = Unit {0}

-- ---- the lines that it leaves

-- The lines above after an edit. They are as before, except that a last line without a line end
-- gets one if the edit puts a new line after it; its class stays.
abbrev pub above_after : (text : List ℕ) → (new_line : Option Stretch) → (touched : Stretch)
    → List ClassedLine
above_after t None s = s.above
above_after t (Some n) s = above_ended (file_line_end t) s.above s.below

-- What an edit leaves: its spans stand within the lines that it touches, and the lines above and
-- below these are as before, each with its class. The new lines between them are told, with their
-- bytes and classes. At most as many lines are new as the edit costs, and at most as many are gone
-- as its size says; none of them is of a conditional. The greatest number of conditionals open at
-- once is as before.
pub record AreOthersKept (t : List ℕ) (e : Edit) (rs : List Replacement) : Type 0 where
  pub touched : Stretch
  pub new : List ClassedLine
  pub place : touched_by (classed_lines t) e ≡ Some touched
  pub before : IsStretchOf (classed_lines t) touched
  pub after : classed_lines (text_after t e)
      ≡ above_after t (insertion (classed_lines t) e) touched ++ (new ++ touched.below)
  pub new_are : new ≡ edited_lines t e touched rs
  pub within : Rise (length (text_of touched.above))
      (length (text_of touched.above) + length (text_of touched.lines)) rs
  pub few_new : length new ≤ cost t e
  pub few_gone : length touched.lines ≤ size t e
  pub new_plain : AreUnconditional new
  pub gone_plain : AreUnconditional touched.lines
  pub same_depth : most_conditionals 0 (classed_lines (text_after t e))
      ≡ most_conditionals 0 (classed_lines t)
