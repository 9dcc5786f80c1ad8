-- Whole lines put in, taken out or exchanged: the line ends of the new lines, what lines leave below
-- them, and the moves.
-- Told in docs/ARCHITECTURE.md, "An edit's way, from Edit to moved lines".
use Rattle.std.specs.Prelude.{◌≡◌, ◌||◌, ◌&&◌, ◌+◌, ◌<◌, ◌==◌, not, if◌then◌else◌, codes, count_by, ℕ, Bool, true, false, List, [], ◌∷◌, ◌++◌, length, replicate}
use Rattle.mk_lines.specs.PhysicalLines.{file_line_end, line_end_bytes}
use Rattle.mk_lines.specs.LogicalLines.{has_no_line_end, logical_lines}
use Rattle.mk_lines.specs.declared.ends.End.{End}
use Rattle.mk_lines.specs.declared.ends.End.TheVariants as ends
use Rattle.mk_class.specs.ListTests.{is_empty, last_passes}
use Rattle.mk_class.specs.Contexts.{Context, context_after_located, max_conditionals}
use Rattle.mk_class.specs.ClassedLines.{classed, classed_lines}
use Rattle.mk_class.specs.declared.class.Class.{Class}
use Rattle.mk_class.specs.declared.class.Class.TheVariants.{DefineHead}
use Rattle.mk_tree.specs.Documents.{most_conditionals}
use Rattle.mk_tree.specs.NewLineEnds.{lacks_line_end}
use Rattle.mk_tree.specs.LocatedLines.{LocatedLine, located_lines, located_text}
use Rattle.mk_edit_language.specs.Edits.{Site, AtPlace}
use Rattle.mk_edit_language.specs.Stretches.{Stretch}
use Rattle.mk_edit_language.specs.LineExchanges.{last_line_end}
use Rattle.mk_patch.specs.Moves.{Move, MovesWithRoom, PutIn, TakeOut}
use Rattle.mk_edit_parts.specs.LocatedParts.{assigns_located}
use Rattle.mk_edit_parts.specs.declared.seek.Found.{Found}
use Rattle.mk_edit_parts.specs.declared.window.Window.{Window}
use Rattle.mk_edit.specs.Insertions.{is_bottom}
use Rattle.mk_edit.specs.PlannedMoves.{stretch_at, ending_moves, follows_unended}
use Rattle.mk_edit.specs.declared.new_lines.LineEnds.{LineEnds}
use Rattle.mk_edit.specs.declared.lines_end.LinesEnd.{LinesEnd}

-- the lines of a window, which go, between those that stay
abbrev pub window_stretch : List LocatedLine → Window → Stretch
window_stretch ls w = stretch_at (classed_lines (located_text ls)) w.place.at w.count

-- whether new lines at a site go to the end of the text, as a new line at its bottom does
abbrev pub is_bottom_site : Site → Bool
is_bottom_site (AtPlace p) = is_bottom p
is_bottom_site s = false

-- ---- the line ends of the new lines

-- the line end of each new line but the last, and that of the last
abbrev pub ends_for : (text : List ℕ) → (new : List (List ℕ)) → Stretch → LineEnds
ends_for t ts s =
    let e = last_line_end (file_line_end t) s.lines in
    record {
      each = e;
      last = if last_passes lacks_line_end s.lines && not (last_passes is_empty ts) then ends.None else e;
    }

-- the same by the line end of the file and that of the last line that goes, and by whether the last new
-- line is empty
abbrev pub ends_by : (file end : End) → (is_last_empty : Bool) → LineEnds
ends_by f e b = record {
  each = if has_no_line_end e then f else e;
  last =
      if has_no_line_end e && not b then ends.None else (if has_no_line_end e then f else e);
}

-- whether a text is empty or its first byte is a line feed
abbrev pub begins_with_line_feed : List ℕ → Bool
begins_with_line_feed [] = true
begins_with_line_feed (b ∷ t) = b == 10

-- a byte of a block, with a line end in the place of a line feed
abbrev pub byte_ended : End → ℕ → List ℕ
byte_ended e b = if b == 10 then line_end_bytes e else b ∷ []

-- how many bytes more a text has if each of its line feeds becomes this line end, which is not none
abbrev pub more_of : End → List ℕ → ℕ
more_of ends.CrLf x = count_by (λ b. b == 10) x
more_of e x = 0

-- the text of a block with a line end in the place of each line feed, and a line end after it
abbrev pub text_with_ends : (each last : End) → (block : List ℕ) → List ℕ
text_with_ends e z [] = line_end_bytes z
text_with_ends e z (b ∷ t) = byte_ended e b ++ text_with_ends e z t

-- how many bytes the line end has that a last line gets, if it has none and new lines at a place would
-- follow it
abbrev pub ending_length : List LocatedLine → (at : ℕ) → ℕ
ending_length ls at =
    if follows_unended ls at then length (line_end_bytes (file_line_end (located_text ls))) else 0

-- ---- what lines leave below them

-- whether a line of this class opens a define for `.RECIPEPREFIX`
abbrev pub defines_prefix : Class → Bool
defines_prefix (DefineHead p) = p
defines_prefix k = false

-- whether a line assigns `.RECIPEPREFIX` or opens a define for it
abbrev pub is_of_prefix_located : LocatedLine → Bool
is_of_prefix_located l = assigns_located (codes ".RECIPEPREFIX") l || defines_prefix l.class

-- what no line leaves in a context
abbrev pub end_before : Context → LinesEnd
end_before c = record { context = c; is_of_prefix = false }

-- what lines and one more line leave
abbrev pub end_after : LinesEnd → LocatedLine → LinesEnd
end_after e l = record {
  context = context_after_located e.context l.class;
  is_of_prefix = e.is_of_prefix || is_of_prefix_located l;
}

-- what lines and some more lines leave
abbrev pub end_after_all : LinesEnd → List LocatedLine → LinesEnd
end_after_all e [] = e
end_after_all e (l ∷ ls) = end_after_all (end_after e l) ls

-- ---- the moves

-- the moves that put some lines in, the first of them at this index
abbrev pub putting_moves : (at : ℕ) → List LocatedLine → List Move
putting_moves at [] = []
putting_moves at (l ∷ ls) = PutIn at l ∷ putting_moves (at + 1) ls

-- the moves before new lines are put in at a place: a last line gets the line end that it lacks, if
-- they go behind it, and some lines go
abbrev pub clearing_moves : List LocatedLine → (at count : ℕ) → List Move
clearing_moves ls at n = ending_moves (follows_unended ls at) ls ++ replicate n (TakeOut at)

-- the lines of a text, the first of which stands in this context
abbrev pub lines_in : Context → (text : List ℕ) → List LocatedLine
lines_in c t = located_lines (classed c (logical_lines t))

-- the lines of a text, the first of which stands in this context, open more conditionals at once than
-- a document may have
abbrev pub AreTooDeepIn : Context → (text : List ℕ) → Type 0
AreTooDeepIn c t = max_conditionals < most_conditionals c.conditionals (classed c (logical_lines t))

-- The lines of a text were read, the first of them at this place, and are not too deep. The moves that
-- put them in stand behind those that were there, and it is known what they leave.
pub record AreReadInto (place : Found) (text : List ℕ) (old new : MovesWithRoom) (end : LinesEnd)
    : Type 0 where
  pub moves : new
      ≡ record old { moves = old.moves ++ putting_moves place.at (lines_in place.context text) }
  pub end_is : end ≡ end_after_all (end_before place.context) (lines_in place.context text)
  pub shallow : AreTooDeepIn place.context text → ⊥
