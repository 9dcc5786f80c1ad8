-- Lemmas. The words of a rule's line, and its bytes with one more or one less.
pub mod WordRangeLemmas
pub mod RawPartLemmas
pub mod HeaderBytes
pub mod ReplacedPrerequisites
