-- Lemmas. Lines replaced, put in and taken out.
pub mod LeaningLemmas
pub mod RunsReplaced
pub mod RecipeRunLemmas
pub mod SpansInLines
pub mod EachReplacedLemmas
pub mod NewLineLemmas
pub mod Sizes
pub mod EndedLast
