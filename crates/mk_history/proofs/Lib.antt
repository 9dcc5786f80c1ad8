-- Lemmas by subject, which the crates above cite too
pub mod on_histories
-- Sessions computed
mod AppendingSession
mod SessionRows
