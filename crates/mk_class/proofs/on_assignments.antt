-- Lemmas. Assignments.
pub mod AssignmentsWhole
pub mod AssignmentEqualsLemmas
pub mod NoAssignmentLemmas
pub mod ValueLemmas
pub mod AssignmentLineLemmas
pub mod AssignmentMaps
