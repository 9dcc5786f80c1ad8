-- The runs for a block are the stretches of lines that say what it says: a law, which is the contract of
-- a public function.
-- Told in docs/PROOFS.md, "An edit".
use Rattle.std.specs.Prelude.{◌≡◌, ℕ, false, List, [], ◌∷◌, ◌++◌, Some}
use Rattle.mk_class.specs.ListTests.{is_empty}
use Rattle.mk_class.specs.ClassedLines.{ClassedLine, classed_lines}
use Rattle.mk_edit_language.specs.Spots.{nth_of}
use Rattle.mk_edit_language.specs.Stretches.{Stretch, IsStretchOf}
use Rattle.mk_edit_language.specs.LineRuns.{texts_of, runs}

-- what some lines say, one after the other
abbrev pub said_by : List ClassedLine → List (List ℕ)
said_by [] = []
said_by (l ∷ ls) = texts_of l.bytes ++ said_by ls

-- A stretch of some lines that says what a block says.
pub record IsRunFor (ls : List ClassedLine) (block : List (List ℕ)) (s : Stretch) : Type 0 where
  pub stretch : IsStretchOf ls s
  pub says : said_by s.lines ≡ block

-- The runs for a block are the stretches that say what it says: each of them says it, and each
-- stretch that says it is one of them.
pub record AreRuns (ls : List ClassedLine) (block : List (List ℕ)) : Type 0 where
  pub each_says : (number : ℕ) (s : Stretch)
      → nth_of number (runs block ls) ≡ Some s → IsRunFor ls block s
  pub each_is_found : (s : Stretch)
      → IsRunFor ls block s → (number : ℕ) × (nth_of number (runs block ls) ≡ Some s)

-- the runs for a block in a text are the stretches of its lines that say what the block says
abbrev pub RunsSayTheirBlock : Type 0
RunsSayTheirBlock =
    (text : List ℕ) (block : List (List ℕ))
    → is_empty block ≡ false → AreRuns (classed_lines text) block
