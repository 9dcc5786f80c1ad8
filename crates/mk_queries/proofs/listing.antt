mod NumberLemmas
mod WalkLemmas
pub mod CountLemmas
