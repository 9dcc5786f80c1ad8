-- Lemmas on sinks and sources
mod UntoldLemmas
mod ComparisonLemmas
