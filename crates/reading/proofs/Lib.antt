-- Laws for the proofs of this crate.
pub mod Walks
pub mod Lines
pub mod Types
pub mod Flat
pub mod Parts
