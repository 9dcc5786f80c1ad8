-- The lines of a text that are still to be read.
-- Told in docs/ARCHITECTURE.md, "The document".
use Rattle.std.specs.Prelude.{◌≡◌, ℕ, ◌<◌, ◌≤◌, ◌||◌, Bool, List, ◌++◌, length}
use Rattle.std.specs.List.{list_any}
use Rattle.mk_lines.specs.Limits.{max_text}
use Rattle.mk_class.specs.Contexts.{Context, max_conditionals}
use Rattle.mk_class.specs.ClassedLines.{classed}
use Rattle.mk_tree.specs.Documents.{most_conditionals}
use Rattle.mk_tree.specs.Plain.{IsClean}
use Rattle.mk_tree.specs.LocatedLines.{LocatedLine, located_lines, context_after_located_lines, AreConditionalsFit}
use Rattle.mk_tree.specs.UnreadPrefixes.{is_unread_located}

-- Some logical lines. The first of them stands in this context, and it is known whether a line
-- before it sets the recipe prefix in a way that is not read.
pub record UnreadLines : Type 0 where
  pub context : Context
  pub has_unread_prefix : Bool
  pub lines : List (List ℕ)

-- unread lines as a document will show them
abbrev pub shown_lines : UnreadLines → List LocatedLine
shown_lines u = located_lines (classed u.context u.lines)

-- unread lines open more conditionals at once than a document may have
abbrev pub AreTooDeep : UnreadLines → Type 0
AreTooDeep u =
    max_conditionals < most_conditionals u.context.conditionals (classed u.context u.lines)

-- Of some unread lines the first ones are read, and the others are left. The lines that are read
-- and those that are left are shown as all of them are. If the conditionals of the lines that are
-- left fit, those of all lines do; if the lines that are left are too deep, all lines are. The lines
-- that are left stand in the context after those that are read, and it is known whether one of these
-- sets the recipe prefix in a way that is not read.
pub record AreReadFrom (old : UnreadLines) (read : List LocatedLine) (left : UnreadLines)
    : Type 0 where
  pub all : read ++ shown_lines left ≡ shown_lines old
  pub fit : AreConditionalsFit left.context.conditionals (shown_lines left)
      → AreConditionalsFit old.context.conditionals (shown_lines old)
  pub deep : AreTooDeep left → AreTooDeep old
  pub context_is : left.context ≡ context_after_located_lines old.context read
  pub unread_is : left.has_unread_prefix ≡ (old.has_unread_prefix || list_any is_unread_located read)

-- The text is within the limit of a document, and this many of its bytes are read. Each line that
-- was read has a byte, and opens one define at most. From there up to `clean` the text has no NUL
-- and no carriage return.
pub record AreUnread (text : List ℕ) (at clean : ℕ) (context : Context) : Type 0 where
  pub short : length text ≤ max_text
  pub within : at ≤ length text
  pub few : context.defines ≤ at
  pub clean_within : clean ≤ length text
  pub is_clean : IsClean text at clean
