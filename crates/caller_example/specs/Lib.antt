-- # What the public contracts say
-- # Vocabulary of private contracts
-- Lines after a migration
pub mod Migrated
