-- Lemmas by subject
pub mod on_runs
-- Texts that are written in parts
pub mod WritesLemmas
