-- # What the public contracts say
-- Control characters as printable text
pub mod Escapes

-- # Vocabulary of private contracts
