-- What the definitions say of scripts whose meaning is known from outside
pub mod ScriptReader
mod RowMeanings
mod WorkedScripts
mod RandomScripts
mod CornerScripts
mod AlternativeScripts
mod FurtherScripts
mod BlockScripts
