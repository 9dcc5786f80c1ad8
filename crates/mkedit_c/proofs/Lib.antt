-- Lemmas on the answers of runs
mod AnswerLemmas
