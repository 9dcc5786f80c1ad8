-- # What the public contracts say
-- What planning answers, and the moves of an edit
pub mod Planned
pub mod PlannedMoves
-- # Vocabulary of private contracts
-- Where new lines go
pub mod Insertions
-- The recipe of a rule, and its edits
pub mod RecipeEdits
-- The words of a rule's line
pub mod PrerequisiteEdits
-- Whole lines
pub mod ExchangePlans
-- A line that is checked by reading
pub mod LineChangePlans
-- A rename
pub mod RenameTargetEffects
pub mod RenameTargetPatches
-- Lines that are switched between an assignment and a comment
pub mod SwitchPlans
-- Changes of values
pub mod ValueChangeLines
pub mod ChangeValuesSurveys
pub mod ChangeValuesPatches
-- An edit of several lines
pub mod EachLineSurveys
pub mod EachLinePatches
