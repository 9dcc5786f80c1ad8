-- Lemmas. The runs for a block: lines that say together what it says; and the lines that a site means.
pub mod BlockTexts
pub mod BlockTests
pub mod FilledLines
pub mod RunLengths
pub mod SameLines
pub mod RunWindows
pub mod RunsMatched
pub mod RunsCovered
pub mod RunsExchanged
pub mod SiteWindows
pub mod SiteStretches
pub mod SiteCauses
pub mod RulesExchanged
