-- # What the public contracts say
-- Which words stand in which lines
pub mod Chains
pub mod Keys
-- The lines, cut into blocks
pub mod Blocks
pub mod Indexes
-- What is known of a document, and what a change of it means for that
pub mod Effects
-- Lines that are exchanged for others of the same kind
pub mod Exchanges
-- # Vocabulary of private contracts
-- How far a walk over the blocks has come
pub mod Walks
