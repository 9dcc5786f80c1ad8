pub mod LineLemmas
pub mod GroupLemmas
pub mod SaidLemmas
pub mod AddLemmas
pub mod ScriptLemmas
pub mod OneLemmas
pub mod WrittenLines
pub mod CommandLemmas
