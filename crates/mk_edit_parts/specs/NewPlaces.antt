-- Where a new line goes in a document.
-- Told in docs/ARCHITECTURE.md, "An edit's way, from Edit to moved lines".
use Rattle.std.specs.Prelude.{◌≡◌, List, ◌++◌, length, Option, Some}
use Rattle.mk_class.specs.ClassedLines.{classed_lines}
use Rattle.mk_tree.specs.Documents.{context_of}
use Rattle.mk_tree.specs.LocatedLines.{LocatedLine, located_text}
use Rattle.mk_edit_language.specs.Stretches.{Stretch}
use Rattle.mk_edit_parts.specs.declared.seek.Found.{Found}

-- A new line goes between the lines of a document: there is a stretch for it, which begins at this
-- place, with the context there.
pub record IsInsertedAt (ls : List LocatedLine) (insertion : Option Stretch) (place : Found)
    : Type 0 where
  pub stretch : Stretch
  pub stretch_is : insertion ≡ Some stretch
  pub whole : classed_lines (located_text ls) ≡ stretch.above ++ stretch.below
  pub place_is : length stretch.above ≡ place.at
  pub context_is : context_of stretch.above ≡ place.context
