-- # What the public contracts say
-- The line that an edit means
pub mod AddressViews
pub mod LocatedParts
pub mod Seeking
pub mod SeekWalks
pub mod Candidates
pub mod Windows
pub mod Found
pub mod NewPlaces
pub mod LineRanges
-- The recipe of a rule, and its edits
pub mod RecipeWalks
-- The runs for a block, and the lines that a site means
pub mod LineRunWalks
pub mod LineRunsFound
pub mod SitesFound
-- The words of a value
pub mod SeenAssignments
pub mod ValuePieces
pub mod LineChangePlaces
-- The lines that an edit of several lines means, and the recipe lines among them
pub mod EachLineWalks
pub mod RecipeChanges
-- The words of a rule's line
pub mod SeenHeaders
pub mod WordCuts
pub mod NewPrerequisites
-- A rename
pub mod RenamedRanges
pub mod RenamedTexts
pub mod Glances
-- A prerequisite replaced
pub mod ReplacedPrerequisites
-- # Vocabulary of private contracts
-- The recipe lines of a text
pub mod TextMatches
-- A walk for the run of a rule
pub mod RuleRunWalks
