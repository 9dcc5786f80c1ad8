-- Lemmas. Headers of rules.
pub mod HeadersWhole
pub mod HeadersAgain
pub mod HeaderFitsLemmas
pub mod HeaderMaps
