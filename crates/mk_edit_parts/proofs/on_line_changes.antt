-- Lemmas. The places of a line that a change replaces, if the change is checked by reading.
pub mod PiecePlaces
pub mod WordsAndTexts
