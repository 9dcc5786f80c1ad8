-- Lemmas. A line that is changed and checked by reading.
pub mod WordsBeside
pub mod OperatorPlaces
pub mod ChangePlaces
pub mod LinesMade
pub mod MisreadLines
pub mod Trimmed
pub mod ModifierWords
pub mod ReadBack
pub mod ChangeLinePlans
