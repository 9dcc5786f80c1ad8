-- The moves of an edit of several lines that is checked by reading: each line that is changed is
-- exchanged for the line after the edit, in two turns.
use Rattle.std.specs.Prelude.{◌≡◌, ◌<◌, ◌≤◌, ◌&&◌, not, Bool, true, List, [], ◌∷◌, ◌++◌, length}
use Rattle.std.specs.List.{list_any}
use Rattle.mk_lines.specs.Limits.{max_text}
use Rattle.mk_tree.specs.LineTexts.{line_in}
use Rattle.mk_tree.specs.LocatedLines.{LocatedLine, located_line}
use Rattle.mk_patch.specs.Moves.{Move, Exchange}
use Rattle.mk_edit_language.specs.EachLine.{EachChange, is_each_changed}
use Rattle.mk_edit.specs.declared.rename_target_effect.Turn.{Turn}
use Rattle.mk_edit.specs.declared.rename_target_effect.Turn.TheVariants as turn
use Rattle.mk_edit.specs.LineChangePlans.{is_changed_misread, line_changed, meant_in}
use Rattle.mk_edit.specs.RenameTargetPatches.{before_moves}
use Rattle.mk_edit.specs.EachLineSurveys.{IsOwnLine, NotedLine}

-- ---- one line

-- the line after the edit, with its class in the context where it stands
abbrev pub line_after : EachChange → NotedLine → LocatedLine
line_after c n = line_changed c n.place.context n.line.bytes

-- whether it does not read as stated
abbrev pub is_note_misread : EachChange → NotedLine → Bool
is_note_misread c n = is_changed_misread c n.place.context n.line.bytes

-- a line that is noted can be changed where it stands
pub record IsChangeable (c : EachChange) (n : NotedLine) : Type 0 where
  pub own : IsOwnLine c n.place.context n.line
  pub classed : n.line ≡ located_line (line_in n.place.context n.line.bytes)
  pub changed : is_each_changed c (meant_in n.place.context n.line.bytes) ≡ true
  pub short : length n.line.bytes ≤ max_text
  pub defines : n.place.context.defines < max_text

-- each of some lines can be changed
abbrev pub AreChangeable : EachChange → List NotedLine → Type 0
AreChangeable c [] = Unit {0}
AreChangeable c (n ∷ ns) = IsChangeable c n × AreChangeable c ns

-- ---- the turns

-- whether a line that becomes longer, or does not, is exchanged in a turn: first come the lines that get
-- no longer, then the lines that get longer
abbrev pub is_of_turn : Turn → (is_longer : Bool) → Bool
is_of_turn turn.NoLonger b = not b
is_of_turn turn.Longer b = b

-- the moves of a turn
abbrev pub turn_moves : Turn → EachChange → List NotedLine → List Move
turn_moves t c [] = []
turn_moves t c (n ∷ ns) =
    before_moves (is_of_turn t n.is_longer) (Exchange n.place.at (line_after c n))
    (turn_moves t c ns)

-- the moves of both turns
abbrev pub each_moves : EachChange → List NotedLine → List Move
each_moves c ns = turn_moves turn.NoLonger c ns ++ turn_moves turn.Longer c ns

-- whether some line of a turn does not read as stated after the edit
abbrev pub misread_in : Turn → EachChange → List NotedLine → Bool
misread_in t c ns = list_any (λ n. is_of_turn t n.is_longer && is_note_misread c n) ns

-- whether some line does not
abbrev pub any_misread : EachChange → List NotedLine → Bool
any_misread c ns = list_any (is_note_misread c) ns
