-- Lemmas. Lines that are moved.
pub mod MoveLemmas
pub mod PlainMoves
pub mod ShapeLemmas
pub mod StepLemmas
pub mod ExchangeLemmas
pub mod TextLineLemmas
pub mod BuilderLemmas
