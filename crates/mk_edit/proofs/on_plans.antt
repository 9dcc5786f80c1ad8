-- Lemmas. From an accepted edit to its moves.
pub mod PlanLemmas
pub mod LinePlans
pub mod NewLinePlans
pub mod DocumentPlaces
pub mod CausePlans
pub mod RangePlans
pub mod RemovalPlans
pub mod TurnPlans
