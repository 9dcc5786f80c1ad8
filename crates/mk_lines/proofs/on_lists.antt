-- Lemmas. Lists, and lists cut by a machine.
pub mod ListLemmas
pub mod BoolLemmas
pub mod ByteLemmas
pub mod CutLemmas
pub mod RangeLemmas
pub mod PieceLemmas
