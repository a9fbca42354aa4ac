-- Laws for the proofs of this crate.
pub mod Digits
pub mod Follow
