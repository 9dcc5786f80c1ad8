-- Lemmas. Whole lines put in, taken out or exchanged.
pub mod SitesFound
pub mod BlockTexts
pub mod RunsSaid
pub mod BlockEnds
pub mod BlockNumbers
pub mod LinesAbove
pub mod LinesExchanged
pub mod RulesGone
