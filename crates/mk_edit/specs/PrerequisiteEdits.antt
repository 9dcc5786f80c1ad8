-- The edits that put a word among the prerequisites of a rule, or take one out.
-- Told in docs/EDITS.md, "Rules".
use Rattle.std.specs.Prelude.{◌≡◌, ℕ, List, Option}
use Rattle.mk_edit_language.specs.Edits.{PrereqChange, Edit, ChangePrereqs}

-- an edit changes the prerequisites of a rule so
pub record IsChangeOfPrereqs (c : PrereqChange) (e : Edit) : Type 0 where
  pub nth : Option ℕ
  pub target : List ℕ
  pub is : e ≡ ChangePrereqs nth target c
