-- Lemmas. The line that an edit changes, and what is read in it afterwards.
pub mod ClassParts
pub mod LineTails
pub mod HeadUnits
pub mod HeadWords
pub mod DirectiveWords
pub mod HeaderLines
pub mod HeaderParts
pub mod HeaderChanges
pub mod LineReplaced
pub mod SpotLemmas
pub mod HashLemmas
pub mod PrefixLemmas
pub mod NameLemmas
