-- Lemmas by subject, which the crates above cite too
pub mod on_lists
pub mod on_lines
pub mod on_cells
pub mod on_units
-- Lemmas of single calls
pub mod PartLemmas
pub mod PrefixLemmas
pub mod SplitLemmas
pub mod UnitWalkLemmas
pub mod StackLemmas
pub mod StoredLemmas
mod TakenLemmas
