pub mod StoredLemmas
pub mod StepLemmas
pub mod CallLemmas
pub mod AnswerLemmas
pub mod RefusalLemmas
pub mod CallerLemmas
pub mod GroupLemmas
