-- Lemmas. Symbols, and maps from one kind of text to another.
pub mod ListLemmas
pub mod ListMaps
pub mod OffsetMaps
pub mod SymbolLemmas
pub mod SymbolMaps
