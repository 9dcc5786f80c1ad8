-- The edits that switch a line between an assignment and a comment, and where the line stands.
-- Told in docs/EDITS.md, "Variables".
use Rattle.std.specs.Prelude.{◌≡◌, ℕ, List, ◌∷◌, ◌++◌, length, Option}
use Rattle.mk_class.specs.ClassedLines.{ClassedLine}
use Rattle.mk_tree.specs.Documents.{context_of}
use Rattle.mk_tree.specs.LineTexts.{StandingLine}
use Rattle.mk_edit_language.specs.Edits.{Switch, Edit, SwitchLine}
use Rattle.mk_edit_parts.specs.declared.seek.Found.{Found}

-- an edit switches a line that says this name so
pub record IsSwitch (w : Switch) (name : List ℕ) (e : Edit) : Type 0 where
  pub nth : Option ℕ
  pub is : e ≡ SwitchLine w nth name

-- a line of some lines stands at a place
pub record StandsAt (ls : List ClassedLine) (s : StandingLine) (f : Found) : Type 0 where
  pub whole : ls ≡ s.above ++ s.line ∷ s.below
  pub place_is : length s.above ≡ f.at
  pub context_is : context_of s.above ≡ f.context
