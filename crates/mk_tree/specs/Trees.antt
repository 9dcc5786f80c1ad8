-- What a tree of lines is seen as, and what holds of it.
-- Told in docs/ARCHITECTURE.md, "The document".
use Rattle.std.specs.Prelude.{◌≡◌, ℕ, suc, zero, ◌+◌, ◌≤◌, max, List, [], ◌∷◌, ◌++◌, length, Option, IfSome}
use Rattle.mk_lines.specs.Limits.{max_text}
use Rattle.mk_tree.specs.LocatedLines.{LocatedLine, size_of}
use Rattle.mk_tree.specs.Runs.{AreRun}
use Rattle.mk_tree.specs.declared.run.Run.{Run}
use Rattle.mk_tree.specs.declared.tree.Line.{Line}
use Rattle.mk_tree.specs.declared.tree.Link.{Link}
use Rattle.mk_tree.specs.declared.tree.Link.TheVariants.{Empty, Full}

-- what a line says, whatever stands left and right of it in its tree
abbrev pub line_view : {A : _} → Line A → LocatedLine
line_view l = l.node.value.content

-- the lines of a tree in order, and its height
abbrev pub lines_and_height : {A : _} → Link A → List LocatedLine × ℕ
lines_and_height Empty = ([], 0)
lines_and_height (Full height run lines l) =
    (l.node.value.left.0 ++ l.node.value.content ∷ l.node.value.right.0, height)

-- two numbers differ by at most `by`
abbrev pub DifferByAtMost : ℕ → ℕ → ℕ → Type 0
DifferByAtMost by m n = (m ≤ n + by) × (n ≤ m + by)

-- the fewest lines that a tree of this height has, if the heights of siblings differ by at most one
abbrev pub fewest_lines : ℕ → ℕ
fewest_lines zero = 0
fewest_lines (suc zero) = 1
fewest_lines (suc (suc h)) = fewest_lines (suc h) + fewest_lines h + 1

-- a tree of this height has enough lines for it, no line is empty, and the bytes are within the
-- limit; so the tree is low
pub record AreFew (lines : List LocatedLine) (height : ℕ) : Type 0 where
  pub enough : fewest_lines height ≤ length lines
  pub some_bytes : length lines ≤ size_of lines
  pub few_bytes : size_of lines ≤ max_text
  pub low : height ≤ 34

-- the counts of a link are those of the tree below it, the lines are the run that it says, if it
-- says one, and the sides of its line differ by at most one in height
pub record IsNode (left : List LocatedLine × ℕ) (line : LocatedLine) (right : List LocatedLine × ℕ)
    (height : ℕ) (run : Option Run) (lines : ℕ) : Type 0 where
  pub height_is : height ≡ max left.1 right.1 + 1
  pub balanced : DifferByAtMost 1 left.1 right.1
  pub lines_are : lines ≡ length (left.0 ++ line ∷ right.0)
  pub run_is : IfSome run (λ r. AreRun r (left.0 ++ line ∷ right.0))
  pub few : AreFew (left.0 ++ line ∷ right.0) height

-- what holds of a tree, at one level
abbrev pub IsBalanced : {A : _} → Link A → Type 0
IsBalanced Empty = Unit {0}
IsBalanced (Full height run lines l) =
    let n = l.node.value in IsNode n.left n.content n.right height run lines

-- the parts of a tree: a line, and what stands left and right of it
pub record IsUnlinked (whole left : List LocatedLine × ℕ) (line : LocatedLine)
    (right : List LocatedLine × ℕ) : Type 0 where
  pub lines : whole.0 ≡ left.0 ++ line ∷ right.0
  pub size : size_of whole.0 ≡ size_of left.0 + length line.bytes + size_of right.0
  pub height : whole.1 ≡ max left.1 right.1 + 1
  pub balanced : DifferByAtMost 1 left.1 right.1
  pub few : AreFew whole.0 whole.1

-- the top of a tree is this line, with what stands before it and what stands after it below it
abbrev pub IsTop : {A : _} → List LocatedLine × ℕ → Line A → Type 0
IsTop whole l = IsUnlinked whole l.node.value.left (line_view l) l.node.value.right

-- the height of the tree that joins two sides and a line between them
abbrev pub IsHeightAfter : ℕ → ℕ → ℕ → Type 0
IsHeightAfter l r h = (max l r ≤ h) × (h ≤ max l r + 1) × (DifferByAtMost 1 l r → h ≡ max l r + 1)
