pub mod WrittenFields
pub mod WrittenContents
pub mod CommandTexts
pub mod WrittenScripts
