-- Where the value of a document's line stands, whether it ends in a fold, and whether a document's lines lean on the flag
-- before them.
-- Told in docs/ARCHITECTURE.md, "An edit's way, from Edit to moved lines".
use Rattle.std.specs.Prelude.{ℕ, Bool, false, ◌||◌, ◌&&◌, if◌then◌else◌, List, [], ◌∷◌}
use Rattle.mk_lines.specs.Cells.{Cell, line_cells}
use Rattle.mk_lines.specs.CellFaults.{is_fold}
use Rattle.mk_lines.specs.Ranges.{raw_range, text_at}
use Rattle.mk_lines.specs.declared.split.Span.{Span}
use Rattle.mk_class.specs.ListTests.{last_passes}
use Rattle.mk_class.specs.RecipePrefix.{is_prefix_led}
use Rattle.mk_class.specs.LocatedClasses.{leaves_flag_located}
use Rattle.mk_class.specs.declared.class.Class as class
use Rattle.mk_class.specs.declared.class.Class.TheVariants as variants
use Rattle.mk_tree.specs.LocatedLines.{LocatedLine}

-- where the value of an assignment's line stands among its raw bytes, with the blanks and folds
-- after it if `with_blanks` says so; an empty range for any other line
abbrev value_range_in : (with_blanks : Bool) → List Cell → class.Class → Span
value_range_in b cs (variants.Assign at p) =
    raw_range cs at.value.start (if b then at.end else at.value.end)
value_range_in b cs k = record { start = 0; end = 0 }

abbrev pub value_range_located : (with_blanks : Bool) → LocatedLine → Span
value_range_located b l = value_range_in b (line_cells l.bytes) l.class

-- whether the last cell of the value of an assignment's line is a fold
abbrev pub ends_in_fold_in : List Cell → class.Class → Bool
ends_in_fold_in cs (variants.Assign at p) = last_passes is_fold (text_at cs at.value)
ends_in_fold_in cs k = false

abbrev pub ends_in_fold_located : LocatedLine → Bool
ends_in_fold_located l = ends_in_fold_in (line_cells l.bytes) l.class

-- whether the first line that begins with the prefix, or has a class that sets the flag, begins
-- with the prefix
abbrev pub is_led_first_located : (prefix : ℕ) → List LocatedLine → Bool
is_led_first_located p [] = false
is_led_first_located p (l ∷ ls) =
    is_prefix_led p l.bytes || (leaves_flag_located l.class && is_led_first_located p ls)
