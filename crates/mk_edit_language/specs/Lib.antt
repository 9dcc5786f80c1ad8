-- # What the public contracts say
-- The edits, and the lines that they speak of
pub mod Edits
pub mod EditViews
pub mod CommandViews
pub mod Numbered
pub mod Spots
pub mod Comments
pub mod Addresses
pub mod Stretches
pub mod RuleRuns
pub mod LineRuns
-- Spans
pub mod NewLines
pub mod LineExchanges
pub mod Lengths
pub mod WordPieces
pub mod ValueChanges
pub mod LineChanges
pub mod SwitchedLines
pub mod EachLine
pub mod EditSpans
pub mod RisingSpans
-- Causes of refusal, each by itself
pub mod Causes
pub mod ArgumentCauses
pub mod AddressCauses
pub mod RuleCauses
pub mod LineCauses
pub mod ExchangeCauses
-- The outcome of an edit
pub mod Refusals
pub mod RefusalTexts
pub mod Changes
pub mod Costs
-- What an edit leaves
pub mod KeptLines
pub mod LinesInPlace
pub mod LinesExchanged
pub mod RuleTaken
pub mod RuleRunTaken
-- Statements of laws
pub mod EditLaws
pub mod LineLaws
