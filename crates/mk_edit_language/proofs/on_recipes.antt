-- Lemmas. Recipe lines.
pub mod RecipeClassLemmas
pub mod RecipeLemmas
