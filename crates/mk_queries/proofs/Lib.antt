-- Texts that are put piece by piece
pub mod PutLemmas
-- What is said of an assignment
pub mod VariableLemmas
-- Readable lines
pub mod ReadableLemmas
-- Definitions computed
mod WorkedRows
mod ChosenRows
