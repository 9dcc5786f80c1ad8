-- Fields and numbers of a line
pub mod on_fields
-- The command of a line
pub mod on_commands
-- Lines and scripts
pub mod on_scripts
-- What is written is read
pub mod on_written
