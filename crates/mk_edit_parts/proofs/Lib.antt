-- Lemmas by subject, which the functions of single edits and the crates above cite too
pub mod CauseLemmas
mod CommentLemmas
pub mod on_finding
pub mod on_new_lines
pub mod on_recipes
pub mod on_line_runs
pub mod on_line_changes
pub mod on_each_line
pub mod on_prerequisites
pub mod on_values
pub mod on_renaming
