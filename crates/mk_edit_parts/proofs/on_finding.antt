-- Lemmas. The line that an edit means, and the lines round it.
pub mod Walks
pub mod PartLemmas
pub mod SeekLemmas
pub mod WindowLemmas
pub mod SeekWindows
pub mod CandidateLemmas
pub mod FindLemmas
pub mod LeanLemmas
pub mod PlaceLemmas
pub mod PlacesBelow
