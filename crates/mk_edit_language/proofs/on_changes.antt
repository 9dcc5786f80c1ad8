-- Lemmas. Lines changed: each value of a name, and a line that is checked by reading.
pub mod SpansShifted
pub mod AssignmentsChanged
pub mod LinesChanged
pub mod ChangeValuesLemmas
pub mod LinesReadAnew
pub mod WordsBeside
