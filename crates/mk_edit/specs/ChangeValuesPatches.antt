-- The moves of a change of all values of a name: each line that is changed is exchanged for the line
-- after the change, in two turns.
use Rattle.std.specs.Prelude.{◌≡◌, ◌<◌, not, Bool, List, [], ◌∷◌, ◌++◌}
use Rattle.mk_lines.specs.Limits.{max_text}
use Rattle.mk_lines.specs.LogicalLines.{logical_lines}
use Rattle.mk_tree.specs.LineTexts.{line_in}
use Rattle.mk_tree.specs.LocatedLines.{LocatedLine, located_line}
use Rattle.mk_patch.specs.Moves.{Move, Exchange, IsPlain}
use Rattle.mk_edit_language.specs.Edits.{ValueChange}
use Rattle.mk_edit.specs.declared.rename_target_effect.Turn.{Turn}
use Rattle.mk_edit.specs.declared.rename_target_effect.Turn.TheVariants as turn
use Rattle.mk_edit.specs.RenameTargetPatches.{before_moves}
use Rattle.mk_edit.specs.ValueChangeLines.{IsOwnLine, bytes_changed, is_longer}
use Rattle.mk_edit.specs.ChangeValuesSurveys.{MeantLine}

-- whether a line that is changed is exchanged in a turn: first come the lines that get no longer, then
-- the lines that get longer
abbrev pub is_turn_for : Turn → ValueChange → LocatedLine → Bool
is_turn_for turn.NoLonger c l = not (is_longer c l)
is_turn_for turn.Longer c l = is_longer c l

abbrev pub is_of_turn : Turn → ValueChange → MeantLine → Bool
is_of_turn t c m = is_turn_for t c m.line

-- a line after the change, with its class in the context where it stands
abbrev pub line_changed : ValueChange → MeantLine → LocatedLine
line_changed c m =
    located_line (line_in m.place.context (bytes_changed c m.place.context m.line))

-- the moves of a turn
abbrev pub turn_moves : Turn → ValueChange → List MeantLine → List Move
turn_moves t c [] = []
turn_moves t c (m ∷ ms) =
    before_moves (is_of_turn t c m) (Exchange m.place.at (line_changed c m)) (turn_moves t c ms)

-- the moves of both turns
abbrev pub changing_moves : ValueChange → List MeantLine → List Move
changing_moves c ms = turn_moves turn.NoLonger c ms ++ turn_moves turn.Longer c ms

-- A line can be changed where it stands: the line after the change is one line, of no conditional.
pub record IsChangeable (c : ValueChange) (m : MeantLine) : Type 0 where
  pub own : IsOwnLine c m.place.context m.line
  pub one : logical_lines (bytes_changed c m.place.context m.line)
      ≡ bytes_changed c m.place.context m.line ∷ []
  pub plain : IsPlain (line_changed c m)
  pub defines : m.place.context.defines < max_text

-- each of some lines can be changed
abbrev pub AreChangeable : ValueChange → List MeantLine → Type 0
AreChangeable c [] = Unit {0}
AreChangeable c (m ∷ ms) = IsChangeable c m × AreChangeable c ms
