-- Lemmas. Lines of assignments that become comments, and comments that become lines of assignments.
pub mod SwitchedPieces
pub mod CommentLines
pub mod SwitchesMade
