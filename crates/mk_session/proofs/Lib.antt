-- Lemmas by subject, which the crates above cite too
pub mod on_sessions
pub mod on_statement
-- Rows of the statement in bytes and lines
mod StatementRows
