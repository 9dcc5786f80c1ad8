mod edits
mod queries
mod scripts
mod runs
