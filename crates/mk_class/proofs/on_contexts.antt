-- Lemmas. Contexts and the flag.
pub mod ContextLemmas
pub mod FlagLemmas
pub mod StepLemmas
