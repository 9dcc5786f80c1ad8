-- Lemmas. Lines as they stand in a text, documents, and open conditionals.
pub mod LinesInText
pub mod DocumentLemmas
pub mod ConditionalLemmas
