-- Lemmas by subject, which the crates above cite too
pub mod on_documents
pub mod on_changes
-- Lemmas of the tree and its calls
pub mod AdmissionLemmas
pub mod Building
pub mod Changes
pub mod Ends
pub mod Heights
pub mod Nodes
pub mod OriginLemmas
pub mod Indices
pub mod PlainLemmas
pub mod PlainLines
pub mod Prefixes
pub mod Reading
pub mod RunLemmas
pub mod WalkLemmas
-- Lemmas on the views of lines
mod PartLemmas
