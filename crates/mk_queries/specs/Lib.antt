-- # What the public contracts say
-- Lines where they stand, and what is listed of them
pub mod Listings
pub mod Items
-- The numbers that edits take
pub mod Numbers
pub mod ListingLaws
-- What is said of a line
pub mod Texts
-- The queries
pub mod Queries
-- The object on a line of any text
pub mod TextLines
-- # Vocabulary of private contracts
-- The first line of which something is seen
pub mod Finding
-- What is counted for a number
pub mod Counting
