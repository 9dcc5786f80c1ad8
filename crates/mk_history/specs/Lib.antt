-- # What the public contracts say
-- Changes in turn, and what is seen of a history
pub mod Chain
pub mod Stacks
-- The session machine, and what is seen of it
pub mod Machine
pub mod Shown
pub mod CallSteps
-- Statements of laws
pub mod Claims
