-- Lemmas. An edit of several lines that is checked by reading.
pub mod MeantMarks
pub mod LinesSeen
