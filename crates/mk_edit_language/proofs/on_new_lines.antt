-- Lemmas. New assignments and rules.
pub mod NewPlaces
pub mod NewLineStands
pub mod AddAssignLemmas
pub mod NewRuleLines
pub mod AddRuleLemmas
