-- # What the public contracts say
pub mod Answers
