-- Lemmas. New lines: their text, their places, and the causes that these decide.
pub mod NewLineTexts
pub mod NewLinePlaces
