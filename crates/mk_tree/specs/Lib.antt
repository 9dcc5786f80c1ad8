-- # What the public contracts say
-- Lines of a text, and their reading
pub mod LineTexts
pub mod Items
pub mod Readings
pub mod RecipeLines
-- Documents
pub mod LocatedLines
pub mod Documents
pub mod Faults
pub mod Counting
-- Changes of lines
pub mod Leaning
pub mod NewLineEnds
pub mod EachReplaced
-- What the code stores
pub mod Runs
pub mod Trees
pub mod TreeWalks
pub mod Admissions
pub mod UnreadPrefixes
pub mod Printing
-- Views of lines
pub mod Views
-- Statements of laws
pub mod DocumentLaws
pub mod ViewLaws
pub mod ChangeLaws
-- # Vocabulary of private contracts
-- What the code stores
pub mod ShortClasses
pub mod Contents
pub mod Origins
pub mod Plain
pub mod Unread
