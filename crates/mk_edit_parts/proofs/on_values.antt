-- Lemmas. The value of an assignment's line, and its words.
pub mod LastCells
pub mod ValueCells
pub mod BaredEnds
pub mod StayingWords
pub mod ValueBytes
pub mod PlacesNoted
