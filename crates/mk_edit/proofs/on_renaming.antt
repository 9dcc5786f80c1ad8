-- Lemmas. The lines of a rename: which words of a line it replaces, and what becomes of the line.
pub mod SizesOfWords
pub mod SizesOfTexts
pub mod CausesOfPrefix
pub mod CausesOfRenameTarget
pub mod LinesRenamed
pub mod TargetsHeld
pub mod PatchTurns
pub mod LinesAlong
pub mod PatchPlans
pub mod SizesOfEffects
pub mod PatchLoops
pub mod PlacesNoted
pub mod PlacesLeft
pub mod WindowsSurveyed
