-- Lemmas. Values set and appended to.
pub mod FoundAssignments
pub mod ValueLines
pub mod ValueEdits
pub mod SetValueLemmas
pub mod FoldEnds
pub mod SetValueEmptyLemmas
pub mod LastFoldLemmas
pub mod BlankAdded
pub mod AppendValueLemmas
pub mod WordParts
pub mod CellsKept
pub mod RemoveWordLemmas
