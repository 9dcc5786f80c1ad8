-- Lemmas. Edits of several lines that are checked by reading: each line that is changed stands in the place of the old one.
pub mod EachLineSpans
pub mod EachLineMade
pub mod MarkLemmas
pub mod EachLinesMade
pub mod EachLineLemmas
