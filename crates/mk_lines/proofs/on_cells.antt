-- Lemmas. The cells of a line.
pub mod CellLemmas
pub mod LineCells
pub mod LineOfCells
pub mod CellsOfLine
pub mod CellsReplaced
