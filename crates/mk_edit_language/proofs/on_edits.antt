-- Lemmas. All edits: their spans, and the lines that they leave.
pub mod Accepted
pub mod EditPlaces
pub mod RisingSpanLemmas
pub mod LineSpansRise
pub mod SpansRise
pub mod MadeLines
pub mod MadeEdits
pub mod KeptApartLemmas
pub mod KeptByRenameTargetLemmas
pub mod KeptByChangeValuesLemmas
pub mod EditLemmas
pub mod LengthLemmas
pub mod EditedLineLemmas
