-- Lemmas. An edit of several lines that is checked by reading.
pub mod LinesOwned
pub mod LinesCounted
pub mod RecipesRead
pub mod NotesTold
pub mod FindingsTold
pub mod EachCauses
pub mod EachWalks
pub mod EachWindows
pub mod EachLoops
pub mod EachTurns
pub mod EachPlans
