-- # What the public contracts say
pub mod Derived
