-- A walk over the lines of a tree, from the first line on, and a walk that tells the context of
-- each line too.
-- Told in docs/ARCHITECTURE.md, "The document".
use Rattle.std.specs.Prelude.{◌≡◌, ℕ, ◌+◌, ◌<◌, List, [], ◌∷◌, ◌++◌, Option, Some, None, MatchOption}
use Rattle.std.specs.Borrow.{Bor}
use Rattle.mk_class.specs.Contexts.{Context, context_after_located}
use Rattle.mk_tree.specs.LocatedLines.{LocatedLine}
use Rattle.mk_tree.specs.Trees.{line_view}
use Rattle.mk_tree.specs.declared.tree.Line.{Line}

-- The lines that a walk has ahead of it. The walk has passed some lines on their left side: ahead
-- are each of these lines, from the last on, and what stands right of it.
abbrev pub lines_ahead : {A : _} → List (Option (Bor (Line A))) → List LocatedLine
lines_ahead [] = []
lines_ahead (None ∷ passed) = lines_ahead passed
lines_ahead (Some l ∷ passed) = lines_ahead passed ++ line_view l.now ∷ l.now.node.value.right.0

-- there is room for each way down from the lines that were passed; the first of them stands at this
-- depth
abbrev pub HaveRoom : {A : _} → ℕ → List (Option (Bor (Line A))) → Type 0
HaveRoom depth [] = Unit {0}
HaveRoom depth (None ∷ passed) = ⊥
HaveRoom depth (Some l ∷ passed) =
    (depth + l.now.node.value.right.1 < 34) × HaveRoom (depth + 1) passed

-- the first of the lines that are ahead is handed out, and the others stay ahead
abbrev pub GivesLine : {A : _} → List LocatedLine → Option (Bor (Line A)) → List LocatedLine
    → Type 0
GivesLine ahead given left =
    MatchOption given ((ahead ≡ []) × (left ≡ [])) (λ line. ahead ≡ line_view line.now ∷ left)

-- some lines that are ahead; the first of them stands in this context
pub record LinesInContext : Type 0 where
  pub context : Context
  pub lines : List LocatedLine

-- the first of the lines that are ahead is handed out with its context; the others stay ahead, in
-- the context after it
abbrev pub GivesLineInContext : {A : _} → LinesInContext → Option (Context × Bor (Line A))
    → LinesInContext → Type 0
GivesLineInContext ahead given left =
    MatchOption given ((ahead.lines ≡ []) × (left ≡ ahead))
    (λ pair. (pair.0 ≡ ahead.context)
    × (ahead.lines ≡ line_view pair.1.now ∷ left.lines)
    × (left.context ≡ context_after_located ahead.context (line_view pair.1.now).class))
