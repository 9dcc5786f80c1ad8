-- Lemmas on texts that are written in three parts
mod WrittenLemmas
-- The first byte of a text as it is shown
mod ShownLemmas
-- Worked rows
mod WorkedRows
