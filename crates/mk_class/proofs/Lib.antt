-- Lemmas by subject, which the crates above cite too
pub mod on_symbols
pub mod on_assignments
pub mod on_headers
pub mod on_contexts
pub mod on_classes
-- Lemmas of the readers
mod ScanLemmas
mod SearchLemmas
mod MarkLemmas
mod CoverLemmas
mod PassedLemmas
pub mod WordLemmas
mod AssignmentLemmas
mod HeaderLemmas
mod HeaderPartLemmas
mod ReadingLemmas
pub mod ArgumentLemmas
