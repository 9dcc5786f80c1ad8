-- Lemmas by subject
pub mod on_lines
pub mod on_values
pub mod on_new_lines
pub mod on_removals
pub mod on_recipes
pub mod on_prerequisites
pub mod on_renames
pub mod on_changes
pub mod on_edits
pub mod on_comments
pub mod on_line_runs
pub mod on_each_line
-- Lemmas on copies of edits
mod CopiedEdits
mod EqualEdits
