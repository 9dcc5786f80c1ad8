-- How many lines an edit reads again, and how many lines it replaces or takes out.
-- Told in CONTRIBUTING.md, "How rows and tests are written".
use Rattle.std.specs.Prelude.{ℕ, Bool, List, length, filter, Option, Some, None}
use Rattle.std.specs.List.{list_any}
use Rattle.mk_class.specs.ClassedLines.{ClassedLine, classed_lines}
use Rattle.mk_edit_language.specs.Edits.{Every, OfRule, Edit, ChangeValue, AddLine, AddRecipe, RemoveLines, RenameTarget, ExchangeLines, EachLine}
use Rattle.mk_edit_language.specs.Stretches.{Stretch, removed}
use Rattle.mk_edit_language.specs.ValueChanges.{is_changed}
use Rattle.mk_edit_language.specs.LineRuns.{site_found}
use Rattle.mk_edit_language.specs.LineExchanges.{line_cost}
use Rattle.mk_edit_language.specs.EachLine.{marked, each_change, is_each_changed}
use Rattle.mk_edit_language.specs.WordPieces.{renamed_pieces, is_replaced}

-- whether a line holds a word that a rename replaces
abbrev pub is_renamed : (old new : List ℕ) → ClassedLine → Bool
is_renamed o n l = list_any is_replaced (renamed_pieces o n l.class)

-- the greatest number of lines that an edit reads again
abbrev pub cost : (text : List ℕ) → Edit → ℕ
cost t (ChangeValue Every n c) = length (filter (is_changed n c) (classed_lines t))
cost t (RenameTarget o n) = length (filter (is_renamed o n) (classed_lines t))
cost t (RemoveLines r) = 0
cost t (ExchangeLines s ts) = line_cost ts
cost t (EachLine e) = length (filter (is_each_changed (each_change e)) (marked e (classed_lines t)))
cost t e = 1

-- how many lines a stretch has
abbrev pub line_count : Option Stretch → ℕ
line_count None = 0
line_count (Some s) = length s.lines

-- the number of lines that an edit replaces or takes out
abbrev pub size : (text : List ℕ) → Edit → ℕ
size t (AddLine p l) = 0
size t (AddRecipe nth g p c) = 0
size t (RemoveLines (OfRule nth g)) = line_count (removed (classed_lines t) (OfRule nth g))
size t (RemoveLines r) = 1
size t (ExchangeLines s ts) = line_count (site_found (classed_lines t) s)
size t e = cost t e
