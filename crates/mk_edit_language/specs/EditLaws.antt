-- Laws of edits, each the contract of a public function.
-- Told in docs/PROOFS.md, "An edit".
use Rattle.std.specs.Prelude.{◌≡◌, ℕ, List, ◌∷◌, ◌++◌, Some, Ok, Err, ◌+◌, length}
use Rattle.mk_lines.specs.Pieces.{Replacement}
use Rattle.mk_lines.specs.Cells.{Cell}
use Rattle.mk_class.specs.declared.assignment.Flavor.{Flavor}
use Rattle.mk_tree.specs.Readings.{reading}
use Rattle.mk_edit_language.specs.Edits.{Place, NewAssign, Edit, AddLine, Every, ChangeValue, RenameTarget, ExchangeLines, EachLine}
use Rattle.mk_class.specs.ClassedLines.{classed_lines}
use Rattle.mk_edit_language.specs.Stretches.{Stretch, place_found, removal, insertion, touched_by}
use Rattle.mk_edit_language.specs.NewLines.{assign_text}
use Rattle.mk_lines.specs.PhysicalLines.{line_end_bytes, file_line_end}
use Rattle.mk_class.specs.Classes.{Class}
use Rattle.mk_tree.specs.NewLineEnds.{above_ended}
use Rattle.mk_edit_language.specs.Refusals.{spans, text_after}
use Rattle.mk_edit_language.specs.declared.refusal.Refusal.{Refusal}
use Rattle.mk_edit_language.specs.Changes.{change}
use Rattle.mk_edit_language.specs.KeptLines.{edited_lines, IsOfOnePlace, TouchFew, AreOthersKept, above_after}
use Rattle.mk_edit_language.specs.Lengths.{bytes_taken, bytes_put}
use Rattle.mk_edit_language.specs.RisingSpans.{IsReplacedAt}
use Rattle.mk_edit_language.specs.LinesInPlace.{AreOthersKeptByRenameTarget, AreOthersKeptByChangeValues, AreOthersKeptByEachLine}
use Rattle.mk_edit_language.specs.LinesExchanged.{AreLinesExchanged}

-- The reading law of an edit: if no cause refuses the edit, the text after it reads as the stated
-- change says.
abbrev pub ReadsAsChanged : Edit → Type 0
ReadsAsChanged e = (text : List ℕ) (replacements : List Replacement)
    → spans text e ≡ Ok replacements → reading (text_after text e) ≡ change text e

-- each edit that no cause refuses changes the reading as its stated change says
abbrev pub EditsReadAsChanged : Type 0
EditsReadAsChanged = (edit : Edit) → ReadsAsChanged edit

-- an accepted edit that takes lines out leaves the lines above and below them, each with its class
abbrev pub OtherLinesStay : Type 0
OtherLinesStay = (edit : Edit) (text : List ℕ) (replacements : List Replacement) (stretch : Stretch)
    → spans text edit ≡ Ok replacements → removal (classed_lines text) edit ≡ Some stretch
    → classed_lines (text_after text edit) ≡ stretch.above ++ stretch.below

-- a refused edit changes nothing
abbrev pub RefusedChangesNothing : Type 0
RefusedChangesNothing = (edit : Edit) (text : List ℕ) (refusal : Refusal)
    → spans text edit ≡ Err refusal → text_after text edit ≡ text

-- After an accepted new assignment its line, with the file's line end, stands at its place. The
-- lines below it stay, each with its class. The lines above it stay too, except that a last line
-- without a line end gets one.
abbrev pub NewAssignmentsStand : Type 0
NewAssignmentsStand =
    (place : Place) (name : List ℕ) (flavor : Flavor) (value text : List ℕ)
    (replacements : List Replacement) (stretch : Stretch)
    → spans text (AddLine place (NewAssign name flavor value)) ≡ Ok replacements
    → place_found (classed_lines text) place ≡ Some stretch
    → (class : Class Cell) × (classed_lines (text_after text (AddLine place (NewAssign name flavor value)))
    ≡ above_ended (file_line_end text) stretch.above stretch.below
    ++ record {
      bytes = assign_text name flavor value ++ line_end_bytes (file_line_end text);
      class = class;
    } ∷ stretch.below)

-- ---- what an edit leaves: the bytes outside its spans, and the lines that its spans do not touch

-- the spans of an edit rise within the text and do not overlap, and the bytes outside them are as
-- before
abbrev pub OnlySpansAreReplaced : Type 0
OnlySpansAreReplaced = (text : List ℕ) (e : Edit) (replacements : List Replacement)
    → spans text e ≡ Ok replacements → IsReplacedAt text (text_after text e) replacements

-- the length of the text after an edit: the length before, less the bytes in its spans, and with
-- the bytes put in their place
abbrev pub LengthsAddUp : Type 0
LengthsAddUp =
    (text : List ℕ) (e : Edit) (replacements : List Replacement) → spans text e ≡ Ok replacements
    → length (text_after text e) + bytes_taken replacements ≡ length text + bytes_put replacements

-- the spans of an edit of one place stand within a stretch that has at most as many lines as the
-- edit's size says
abbrev pub SpansTouchFewLines : Type 0
SpansTouchFewLines = (text : List ℕ) (e : Edit) (replacements : List Replacement) → IsOfOnePlace e
    → spans text e ≡ Ok replacements → TouchFew text e replacements

-- the lines after an edit of one place: the lines above, the edited lines with their bytes and
-- classes, and the lines below
abbrev pub EditedLinesStand : Type 0
EditedLinesStand = (text : List ℕ) (e : Edit) (replacements : List Replacement) (touched : Stretch)
    → spans text e ≡ Ok replacements → touched_by (classed_lines text) e ≡ Some touched
    → classed_lines (text_after text e)
    ≡ above_after text (insertion (classed_lines text) e) touched
    ++ (edited_lines text e touched replacements ++ touched.below)

-- an edit leaves the lines that its spans do not touch, touches few lines, and opens no conditional
abbrev KeepsOthers : Edit → Type 0
KeepsOthers e = (text : List ℕ) (replacements : List Replacement) → spans text e ≡ Ok replacements
    → AreOthersKept text e replacements

-- What an edit leaves. A rename, a change of every value of a name and an edit of several lines that
-- is checked by reading may touch lines that stand apart: each leaves the lines that it does not
-- change, makes each other line in its place, and opens no conditional. An exchange of whole lines
-- leaves the lines above and below them.
abbrev pub LeavesOthers : Edit → Type 0
LeavesOthers (RenameTarget old new) = (text : List ℕ) (replacements : List Replacement)
    → spans text (RenameTarget old new) ≡ Ok replacements
    → AreOthersKeptByRenameTarget old new text replacements
LeavesOthers (ChangeValue Every name change) = (text : List ℕ) (replacements : List Replacement)
    → spans text (ChangeValue Every name change) ≡ Ok replacements
    → AreOthersKeptByChangeValues name change text replacements
LeavesOthers (ExchangeLines site new) = (text : List ℕ) (replacements : List Replacement)
    → spans text (ExchangeLines site new) ≡ Ok replacements
    → AreLinesExchanged site new text replacements
LeavesOthers (EachLine each) = (text : List ℕ) (replacements : List Replacement)
    → spans text (EachLine each) ≡ Ok replacements → AreOthersKeptByEachLine each text replacements
LeavesOthers e = KeepsOthers e

-- each edit leaves the lines that its spans do not touch
abbrev pub EditsKeepOthers : Type 0
EditsKeepOthers = (edit : Edit) → LeavesOthers edit
