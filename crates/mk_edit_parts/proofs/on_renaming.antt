-- Lemmas. The lines of a rename: which words of a line it replaces, and what becomes of the line.
pub mod RangeLemmas
pub mod WrittenLemmas
pub mod PieceRanges
pub mod LinePieces
pub mod AbsentWords
pub mod WordEnds
pub mod WordGlances
