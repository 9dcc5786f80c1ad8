-- A text after an edit of one line: the other lines stay, each with its class; and what the line reads as.
use Rattle.std.proofs.Common.{◌≡◌, subst, ℕ, List, [], ◌∷◌, ◌++◌, not, true}
use Rattle.mk_lines.proofs.on_lines.LineLemmas.{OneLine, EndsBefore}
use Rattle.mk_lines.specs.Cells.{Cell}
use Rattle.mk_class.specs.Classes.{Class, is_conditional}
use Rattle.mk_class.specs.Contexts.{context_after}
use Rattle.mk_class.specs.ClassTable.{class_of}
use Rattle.mk_class.specs.ClassedLines.{ClassedLine, classed_lines}
use Rattle.mk_tree.specs.Documents.{text_of, context_of}
use Rattle.mk_tree.specs.Items.{Item, items_of_line}
use Rattle.mk_tree.proofs.on_documents.LinesInText.{bytes_of}
use Rattle.mk_tree.proofs.on_changes.RunsReplaced.{line-replaced}

-- A text whose lines are those above and those below, with one line between them, which is of no conditional and reads as one
-- item.
pub record IsLineReplaced (t : List ℕ) (above below : List ClassedLine) (i : Item) : Type 0 where
  pub line : ClassedLine
  pub lines : classed_lines t ≡ above ++ line ∷ below
  pub unconditional : not (is_conditional line.class) ≡ true
  pub item : items_of_line line.class line.bytes ≡ i ∷ []

-- another line in the place of one; the context after it is as before
pub replaced-line : (t : List ℕ) (above : List ClassedLine) (l : ClassedLine) (below : List ClassedLine) (m : List ℕ) (k : Class Cell) (i : Item) → classed_lines t ≡ above ++ l ∷ below
    → OneLine m → EndsBefore m (bytes_of below) → class_of (context_of above) m ≡ k → context_after (context_of above) k ≡ context_after (context_of above) l.class
    → not (is_conditional k) ≡ true → items_of_line k m ≡ i ∷ [] → IsLineReplaced (text_of above ++ (m ++ text_of below)) above below i
replaced-line t above l below m k i h o ends q same u read =
    record { line = record { bytes = m; class = k }; lines = line-replaced t above l below m k h o ends q same; unconditional = u; item = read }

-- equal texts and equal items
pub replaced-same : (s t : List ℕ) (above below : List ClassedLine) (i j : Item) → t ≡ s → j ≡ i → IsLineReplaced t above below j → IsLineReplaced s above below i
replaced-same s t above below i j h k r =
    subst (λ z. IsLineReplaced s above below z) k (subst (λ z. IsLineReplaced z above below j) h r)
