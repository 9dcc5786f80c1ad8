-- # What the public contracts say
-- What became of a temporary file
pub mod Commits

-- # Vocabulary of private contracts
