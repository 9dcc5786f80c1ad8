-- Lemmas. Classes, and where the parts of a line stand.
pub mod ClassLemmas
pub mod ClassHolds
pub mod ClassMaps
pub mod FirstWordLemmas
pub mod PartOffsetLemmas
pub mod PlainLineLemmas
pub mod LinePartLemmas
