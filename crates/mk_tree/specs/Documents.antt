-- What a document is: a list of lines, each with its bytes and its class. A document is faithful to
-- a text if its lines are those of the text, each with its class in the context of the lines before
-- it.
use Rattle.std.specs.Prelude.{◌≡◌, ℕ, ◌<◌, max, not, List, [], ◌∷◌}
use Rattle.mk_lines.specs.Lists.{Each}
use Rattle.mk_class.specs.Classes.{is_conditional}
use Rattle.mk_class.specs.Contexts.{conditionals_after, max_conditionals}
use Rattle.mk_class.specs.ClassedLines.{ClassedLine, classed_lines}
pub use Rattle.mk_tree.specs.LineTexts.{text_of, context_of}
use Rattle.mk_tree.specs.LocatedLines.{LocatedLine, located_lines, located_text}

-- the lines of a text as a document shows them
abbrev pub document_lines : List ℕ → List LocatedLine
document_lines t = located_lines (classed_lines t)

-- the lines are those of a text
abbrev pub IsFaithfulTo : List LocatedLine → List ℕ → Type 0
IsFaithfulTo ls t = ls ≡ document_lines t

-- the lines are those of their own text
abbrev pub IsFaithful : List LocatedLine → Type 0
IsFaithful ls = IsFaithfulTo ls (located_text ls)

-- the most conditionals that are open before, between or after some lines; `open_before` are open
-- before the first
abbrev pub most_conditionals : (open_before : ℕ) → List ClassedLine → ℕ
most_conditionals n [] = n
most_conditionals n (l ∷ ls) = max n (most_conditionals (conditionals_after n l.class) ls)

-- a text opens more conditionals at once than a document may have
abbrev pub IsTooDeep : List ℕ → Type 0
IsTooDeep t = max_conditionals < most_conditionals 0 (classed_lines t)

-- lines that belong to no conditional
abbrev pub AreUnconditional : List ClassedLine → Type 0
AreUnconditional ls = Each (λ l. not (is_conditional l.class)) ls
