-- Lemmas. Targets renamed.
pub mod WordsRenamed
pub mod RenamedHeaders
pub mod ReplacePrereqLemmas
pub mod RenamedTexts
pub mod TargetFronts
pub mod TargetUnits
pub mod TargetLines
pub mod TargetNames
pub mod RenamedTargets
pub mod RenameTargetLemmas
