-- Lemmas. Logical lines and line ends.
pub mod LineCut
pub mod LineLemmas
pub mod LineEndLemmas
pub mod LineEndAdded
pub mod FileEndLemmas
