-- Lemmas. What a change of a document means for what is known of it.
pub mod EndLemmas
pub mod SameLemmas
pub mod KeptLemmas
