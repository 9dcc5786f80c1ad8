-- # Vocabulary of private contracts
-- What the program prints.
pub mod Destinations
pub mod EndMessages
pub mod NamedLines
pub mod DiffRuns
