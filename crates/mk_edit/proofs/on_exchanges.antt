-- Lemmas. Whole lines put in, taken out or exchanged.
pub mod NewTexts
pub mod LineEndsFor
pub mod LinesLeft
pub mod LinesRead
pub mod ExchangeMoves
pub mod ExchangeCauses
pub mod ExchangePlans
pub mod ExchangeAnswers
