-- Lemmas. Lines taken out.
pub mod RemovalLemmas
pub mod RuleTakenLemmas
