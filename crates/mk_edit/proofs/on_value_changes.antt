-- Lemmas. Changes of values: what a change does to each line, and its plan; of all values of a name, and of one.
pub mod ChangedBytes
pub mod LinesTold
pub mod WindowsWalked
pub mod SizesOfChanges
pub mod CausesOfChange
pub mod ChangeTurns
pub mod ChangePlans
pub mod ChangeLoops
pub mod OneChanges
