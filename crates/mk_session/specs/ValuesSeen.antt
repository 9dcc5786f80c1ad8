-- The value of an assignment as a line shows it.
-- Told in docs/LIBRARY.md, "Lines and their parts".
use Rattle.std.specs.Prelude.{ℕ, List, [], Option, Some, None}
use Rattle.mk_tree.specs.Views.{AssignmentView}

abbrev pub value_seen : Option AssignmentView → List ℕ
value_seen None = []
value_seen (Some v) = v.value
