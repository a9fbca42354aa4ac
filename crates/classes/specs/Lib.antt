-- Classes of outlines in the arena.
pub mod Chains
pub mod Orders
pub mod Directory
