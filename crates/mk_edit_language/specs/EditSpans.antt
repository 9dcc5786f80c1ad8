-- The spans of each edit.
-- Told in docs/EDITS.md, "Variables", "Rules", "Recipes" and "Targets".
use Rattle.std.specs.Prelude.{ℕ, ◌+◌, List, [], ◌∷◌, ◌++◌, length, Option, Some, None}
use Rattle.mk_lines.specs.PhysicalLines.{without_line_end}
use Rattle.mk_lines.specs.Cells.{Cell}
use Rattle.mk_lines.specs.Pieces.{Replacement, Piece, replacements}
use Rattle.mk_class.specs.Headers
use Rattle.mk_class.specs.Classes.{Class}
use Rattle.mk_class.specs.Classes.Class.{Header}
use Rattle.mk_class.specs.ClassedLines.{ClassedLine}
use Rattle.mk_tree.specs.Documents.{text_of}
use Rattle.mk_tree.specs.LineTexts.{StandingLine}
use Rattle.mk_edit_language.specs.Edits.{One, Every, PrereqChange, AddPrereq, RemovePrereq, ReplacePrereq, Edit, ChangeValue, ChangeLine, ChangePrereqs, SetRecipe, RemoveLines, SwitchLine, RenameTarget, ExchangeLines, EachLine}
use Rattle.mk_edit_language.specs.Addresses.{Variable, Rule, value_address, switch_address, found}
use Rattle.mk_edit_language.specs.Stretches.{Stretch, insertion, removed, recipe_found}
use Rattle.mk_edit_language.specs.NewLines.{new_line_span}
use Rattle.mk_edit_language.specs.LineRuns.{site_found}
use Rattle.mk_edit_language.specs.LineExchanges.{exchange_span}
use Rattle.mk_edit_language.specs.ValueChanges.{value_spans, change_spans, changed_line_spans}
use Rattle.mk_edit_language.specs.LineChanges.{line_change_spans}
use Rattle.mk_edit_language.specs.SwitchedLines.{switch_spans}
use Rattle.mk_edit_language.specs.EachLine.{marked, each_change, marked_spans}
use Rattle.mk_edit_language.specs.WordPieces.{add_pieces, remove_pieces, replace_pieces, renamed_pieces}

-- the span of whole lines with their line ends
abbrev pub removed_span : Stretch → List Replacement
removed_span s =
    let at = length (text_of s.above) in
    record { start = at; end = at + length (text_of s.lines); new = [] } ∷ []

-- the spans in the line of a header; the line begins at this offset
abbrev pub header_spans : (Headers.Header Cell → List Piece) → (line_start : ℕ) → Class Cell
    → List Replacement
header_spans f at (Header h) = replacements at (f h)
header_spans f at k = []

-- the pieces of a header's line that a change of prerequisites makes
abbrev pub prereq_pieces : PrereqChange → Headers.Header Cell → List Piece
prereq_pieces (AddPrereq order w) h = add_pieces order w h
prereq_pieces (RemovePrereq w) h = remove_pieces w h
prereq_pieces (ReplacePrereq o n) h = replace_pieces o n h

abbrev pub word_spans : (Headers.Header Cell → List Piece) → StandingLine → List Replacement
word_spans f s = header_spans f (length (text_of s.above)) s.line.class

-- the spans in lines, where `f` says those in a line that begins at an offset; the first line begins
-- at this offset
abbrev pub spans_in_lines : (f : ℕ → Class Cell → List Replacement) → (start : ℕ)
    → List ClassedLine → List Replacement
spans_in_lines f at [] = []
spans_in_lines f at (l ∷ ls) = f at l.class ++ spans_in_lines f (at + length l.bytes) ls

-- the spans of each target and each prerequisite that is the old word, in a line of this class
abbrev pub renamed_line_spans : (old new : List ℕ) → (line_start : ℕ) → Class Cell
    → List Replacement
renamed_line_spans o n at k = replacements at (renamed_pieces o n k)

abbrev pub renamed_spans : (old new : List ℕ) → (start : ℕ) → List ClassedLine → List Replacement
renamed_spans o n at ls = spans_in_lines (renamed_line_spans o n) at ls

-- the span of a recipe line's text: all after its first byte, up to its line end
abbrev pub recipe_span : (command : List ℕ) → StandingLine → List Replacement
recipe_span c s =
    let at = length (text_of s.above) in
    record { start = at + 1; end = at + length (without_line_end s.line.bytes); new = c } ∷ []

-- what `f` says of the thing that is found; the empty list if nothing is found
abbrev pub where_found : {A B : Type 0} → (A → List B) → Option A → List B
where_found f None = []
where_found f (Some x) = f x

-- the spans of an edit that no cause refuses
abbrev pub spans_of : (text : List ℕ) → List ClassedLine → Edit → List Replacement
spans_of t ls (ChangeValue (One nth) n c) =
    where_found (value_spans (change_spans c)) (found ls (value_address nth n c))
spans_of t ls (ChangeValue Every n c) = spans_in_lines (changed_line_spans n c) 0 ls
spans_of t ls (ChangeLine nth n c) =
    where_found (value_spans (line_change_spans c)) (found ls (Variable nth n))
spans_of t ls (ChangePrereqs nth g c) =
    where_found (word_spans (prereq_pieces c)) (found ls (Rule nth g))
spans_of t ls (SetRecipe nth g w c) = where_found (recipe_span c) (recipe_found ls nth g w)
spans_of t ls (RemoveLines r) = where_found removed_span (removed ls r)
spans_of t ls (SwitchLine w nth n) =
    where_found (switch_spans w) (found ls (switch_address w nth n))
spans_of t ls (RenameTarget o n) = renamed_spans o n 0 ls
spans_of t ls (ExchangeLines s ts) = where_found (exchange_span t ts) (site_found ls s)
spans_of t ls (EachLine e) = marked_spans (each_change e) 0 (marked e ls)
spans_of t ls e = where_found (new_line_span t e) (insertion ls e)
