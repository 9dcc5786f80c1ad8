-- Lemmas. Histories and the session machine.
pub mod ChainLemmas
pub mod HistoryLemmas
pub mod MachineLemmas
pub mod ShownLemmas
