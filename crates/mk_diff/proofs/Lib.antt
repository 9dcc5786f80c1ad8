mod AppliedLemmas
mod BetweenLemmas
mod ContextLemmas
mod FinderLemmas
mod HunkTextLemmas
mod LeadsLemmas
mod MatchLemmas
pub mod PhysicalLineLemmas
mod PlaceLemmas
mod ShownLemmas
-- Definitions computed
mod WorkedRows
