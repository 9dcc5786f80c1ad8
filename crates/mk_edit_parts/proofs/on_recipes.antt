-- Lemmas. The recipes of rules, and the edits of rules and recipes.
pub mod WalksDown
pub mod WalkLemmas
pub mod RunWalks
pub mod GapLemmas
pub mod TextWalks
pub mod RecipesChanged
pub mod RulePlaces
pub mod RuleRunsWalked
