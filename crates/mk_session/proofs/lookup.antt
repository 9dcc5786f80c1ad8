-- Lemmas on lookups
mod LookupLemmas
mod LawLemmas
