-- What always holds of a stored line: it is not empty, and what is stored of its cells is its own.
-- Told in docs/ARCHITECTURE.md, "The document".
use Rattle.std.specs.Prelude.{◌≢◌, ℕ, ◌<◌, List, All, length}
use Rattle.mk_lines.specs.PhysicalLines.{without_line_end}
use Rattle.mk_lines.specs.StoredCells.{AreCellsOf}
use Rattle.mk_class.specs.declared.class.Class.{Class}
use Rattle.mk_tree.specs.ShortClasses.{whole_class}
use Rattle.mk_tree.specs.declared.content.Stored.{Stored}
use Rattle.mk_tree.specs.declared.content.Stored.TheVariants.{Plain, Folded, Long}

-- the bytes of a stored line
abbrev pub stored_bytes : {A : _} → Stored A → List ℕ
stored_bytes (Plain k bytes) = bytes
stored_bytes (Folded k l) = l.value.bytes
stored_bytes (Long l) = l.value.line.bytes

-- the class of a stored line
abbrev pub stored_class : {A : _} → Stored A → Class
stored_class (Plain k bytes) = whole_class k
stored_class (Folded k l) = whole_class k
stored_class (Long l) = l.value.class

-- the cells that are stored are the line's, and none are stored only of a line without folds
abbrev pub HasOwnCells : {A : _} → Stored A → Type 0
HasOwnCells (Plain k bytes) = All (λ b. b ≢ 10) (without_line_end bytes)
HasOwnCells (Folded k l) = AreCellsOf l.value.cells l.value.bytes
HasOwnCells (Long l) = AreCellsOf l.value.line.cells l.value.line.bytes

pub record IsContent {A : _} (stored : Stored A) : Type 0 where
  pub some_bytes : 0 < length (stored_bytes stored)
  pub cells : HasOwnCells stored
