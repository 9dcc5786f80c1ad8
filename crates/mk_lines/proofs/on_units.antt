-- Lemmas. Units and words.
pub mod UnitLemmas
pub mod FirstUnitLemmas
pub mod TokenLemmas
