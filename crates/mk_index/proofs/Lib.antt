pub mod on_blocks
pub mod on_chains
pub mod on_effects
