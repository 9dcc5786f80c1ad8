-- Lemmas. Prerequisites added and removed.
pub mod HeaderEdits
pub mod NewWords
pub mod WordsAdded
pub mod WordsRemoved
pub mod AddPrereqLemmas
pub mod RemovePrereqLemmas
