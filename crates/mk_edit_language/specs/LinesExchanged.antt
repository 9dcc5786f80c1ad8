-- The lines of a text after whole lines were put in, taken out or exchanged.
-- Told in docs/PROOFS.md, "An edit".
use Rattle.std.specs.Prelude.{◌≡◌, ℕ, List, ◌++◌, ◌+◌, ◌≤◌, length, Some}
use Rattle.mk_lines.specs.PhysicalLines.{file_line_end}
use Rattle.mk_lines.specs.Pieces.{Replacement}
use Rattle.mk_class.specs.Contexts.{max_conditionals}
use Rattle.mk_class.specs.ClassedLines.{classed_lines}
use Rattle.mk_tree.specs.Documents.{text_of, most_conditionals}
use Rattle.mk_tree.specs.NewLineEnds.{above_ended}
use Rattle.mk_edit_language.specs.Edits.{Site, ExchangeLines}
use Rattle.mk_edit_language.specs.Stretches.{Stretch, IsStretchOf}
use Rattle.mk_edit_language.specs.LineRuns.{site_found}
use Rattle.mk_edit_language.specs.LineExchanges.{new_lines}
use Rattle.mk_edit_language.specs.Costs.{cost, size}
use Rattle.mk_edit_language.specs.Refusals.{text_after}
use Rattle.mk_edit_language.specs.RisingSpans.{Rise}

-- What accepted new lines leave. The lines that go are a stretch of the text, and the spans stand
-- within it. Afterwards the lines are the lines above, the new lines, and the lines below, each of
-- the others with its class; if no line is below, the last line above gets a line end if it has none.
-- As many lines are new as the edit costs, and as many are gone as its size says. A text that opens no
-- more conditionals at once than a document may have opens no more afterwards.
pub record AreLinesExchanged (site : Site) (new : List (List ℕ)) (t : List ℕ)
    (rs : List Replacement)
    : Type 0 where
  pub stretch : Stretch
  pub place : site_found (classed_lines t) site ≡ Some stretch
  pub before : IsStretchOf (classed_lines t) stretch
  pub after : classed_lines (text_after t (ExchangeLines site new))
      ≡ above_ended (file_line_end t) stretch.above stretch.below
      ++ (new_lines t new stretch ++ stretch.below)
  pub within : Rise (length (text_of stretch.above))
      (length (text_of stretch.above) + length (text_of stretch.lines)) rs
  pub number_new : length (new_lines t new stretch) ≡ cost t (ExchangeLines site new)
  pub number_gone : length stretch.lines ≡ size t (ExchangeLines site new)
  pub depth : most_conditionals 0 (classed_lines t) ≤ max_conditionals
      → most_conditionals 0 (classed_lines (text_after t (ExchangeLines site new)))
      ≤ max_conditionals
