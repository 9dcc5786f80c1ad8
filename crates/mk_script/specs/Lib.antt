-- # What the public contracts say
-- Fields, numbers and commands of a script
pub mod Fields
pub mod Blocks
pub mod Numbers
pub mod CommandTable
pub mod Lines
-- Scripts, and laws of them
pub mod Scripts
pub mod ScriptsOfCommands
pub mod FirstCommands
pub mod BlockWords
pub mod ScriptLaws
-- An edit as a line of a script
pub mod WrittenEdits
-- The words of a script, and how its lines are read
pub mod WordReading
pub mod FieldReading
pub mod SeenFields
pub mod CommandReading
pub mod BlockReading
-- # Vocabulary of private contracts
-- What the readers of a line answer
pub mod ReaderAnswers
-- The command of an edit in a line
pub mod WrittenLines
