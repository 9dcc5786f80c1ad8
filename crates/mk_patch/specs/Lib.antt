-- # What the public contracts say
pub mod Moves
pub mod StepMoves
