-- What some lines need to stand in the place of as many other lines of a text.
-- Told in docs/PROOFS.md, "Reading a makefile".
use Rattle.std.specs.Prelude.{◌≡◌, List, [], ◌∷◌, ◌++◌}
use Rattle.mk_lines.specs.LogicalLines.{logical_lines, EndsWhereFollowed}
use Rattle.mk_class.specs.Contexts.{Context, context_after}
use Rattle.mk_class.specs.ClassTable.{class_of}
use Rattle.mk_class.specs.ClassedLines.{ClassedLine}
use Rattle.mk_tree.specs.LineTexts.{bytes_of}

-- What a line needs to stand in the place of another, in its context: it is one line, it ends a
-- line if lines follow, and the context after it is the same.
pub record ReplacesLine (c : Context) (old new : ClassedLine) (following : List ClassedLine)
    : Type 0 where
  pub one : logical_lines new.bytes ≡ new.bytes ∷ []
  pub ends : EndsWhereFollowed new.bytes (bytes_of following)
  pub class : class_of c new.bytes ≡ new.class
  pub context : context_after c new.class ≡ context_after c old.class

-- Lines of which each can stand in the place of one other.
abbrev pub ReplaceEach : Context → (old new below : List ClassedLine) → Type 0
ReplaceEach c [] [] below = Unit {0}
ReplaceEach c [] (m ∷ ms) below = ⊥
ReplaceEach c (l ∷ ls) [] below = ⊥
ReplaceEach c (l ∷ ls) (m ∷ ms) below =
    ReplacesLine c l m (ls ++ below) × ReplaceEach (context_after c l.class) ls ms below
