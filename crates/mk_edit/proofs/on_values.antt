-- Lemmas. The value of an assignment's line.
pub mod ValuePlaces
pub mod OwnLines
pub mod ValueSpans
