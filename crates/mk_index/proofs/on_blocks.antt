-- Lemmas. Blocks of lines.
pub mod ChangedLines
pub mod PartLemmas
pub mod SpliceLemmas
pub mod GroupLemmas
pub mod MadeLemmas
pub mod ListedLemmas
pub mod RefreshLemmas
pub mod WindowLemmas
pub mod MarkLemmas
pub mod FollowedLemmas
pub mod RisingLemmas
