-- Lemmas on lines with a name
mod NamedLineLemmas
-- Lemmas on runs whose makefile could not be read
mod UnreadLemmas
