-- # What the public contracts say
pub mod Hunks
pub mod NameTexts
pub mod HunkTexts
pub mod PaintedDiffs
pub mod Stretches
-- # Vocabulary of private contracts
pub mod Places
