-- Lemmas. Chains of mentions, and the keys of lines.
pub mod ChainLemmas
pub mod WalkLemmas
pub mod KeyLemmas
pub mod ListedLemmas
pub mod ButLemmas
