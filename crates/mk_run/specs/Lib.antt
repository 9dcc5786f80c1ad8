-- # What the public contracts say
-- Reports and outcomes
pub mod Report
pub mod Outcome
-- Runs
pub mod ExecutedCommands
pub mod ExecutedSteps
pub mod Runs
pub mod RunEnds
pub mod RunSteps
pub mod Events
-- Laws
pub mod RunLaws
