-- Lemmas. The recipes of rules, and the edits of rules and recipes.
pub mod OwnCauses
pub mod RuleEnds
pub mod RemoveRulePlans
pub mod RecipePlaces
pub mod MeantRecipes
pub mod RemoveRecipePlans
pub mod AddRecipePlans
pub mod SetRecipePlans
