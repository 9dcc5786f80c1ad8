-- The run of a rule: the lines that go with the rule when whole lines are put in its place.
-- Told in docs/EDITS.md, "Whole lines".
use Rattle.std.specs.Prelude.{ℕ, zero, ◌-◌, if◌then◌else◌, Bool, false, not, List, [], ◌∷◌, length, Option, Some, None, is_some, option_map, unwrap_or}
use Rattle.mk_lines.specs.Cells.{Cell}
use Rattle.mk_class.specs.Classes.{Class}
use Rattle.mk_class.specs.Classes.Class.{Else, Endif}
use Rattle.mk_class.specs.Contexts.{conditionals_after}
use Rattle.mk_class.specs.ClassedLines.{ClassedLine}
use Rattle.mk_tree.specs.RecipeLines.{stays_in_rule, recipe_run}
use Rattle.mk_tree.specs.LineTexts.{StandingLine}
use Rattle.mk_edit_language.specs.Stretches.{Stretch, led_by, this_line}

-- whether a line of this class may stand in the run of a rule, if so many conditionals that begin in
-- the run are open before it: a line that stays in the rule, but no Else or Endif of a conditional that
-- begins above the run
abbrev pub stands_in_run : (begun : ℕ) → Class Cell → Bool
stands_in_run zero Else = false
stands_in_run zero Endif = false
stands_in_run n k = stays_in_rule k

-- The lines below a header that belong to its run, as a stretch of these lines: at least as many as
-- the number of lines up to the last recipe line, and then up to the first after which no conditional is
-- open that begins in the run. None if there is no such line.
abbrev pub run_below : (begun recipe : ℕ) → List ClassedLine → Option Stretch
run_below zero zero ls = Some (record { above = []; lines = []; below = ls })
run_below n r [] = None
run_below n r (l ∷ ls) =
    if stands_in_run n l.class
    then option_map (led_by l) (run_below (conditionals_after n l.class) (r - 1) ls)
    else None

-- a stretch of the lines below a header, with the header, in the whole text
abbrev pub under_header : StandingLine → Stretch → Stretch
under_header h s = record { above = h.above; lines = h.line ∷ s.lines; below = s.below }

-- the run of a rule, if there is one
abbrev pub run_of_rule : StandingLine → Option Stretch
run_of_rule h = option_map (under_header h) (run_below 0 (length (recipe_run h.below)) h.below)

-- the run of a rule; its header alone if there is none, which is refused
abbrev pub run_or_header : StandingLine → Stretch
run_or_header h = unwrap_or (run_of_rule h) (this_line h)

-- whether a header is found that has no run
abbrev pub has_no_run : Option StandingLine → Bool
has_no_run None = false
has_no_run (Some h) = not (is_some (run_of_rule h))
