-- Lemmas. The words of a rule's line, and its bytes with one more or one less.
pub mod HeaderPlaces
pub mod WordPlans
pub mod RemovePrereqPlans
pub mod AddPrereqPlans
pub mod ReplacePrereqPlans
