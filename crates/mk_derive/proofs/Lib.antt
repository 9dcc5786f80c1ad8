-- Lemmas on runs that are done
mod DoneLemmas
