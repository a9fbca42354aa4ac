-- The laws behind the proofs of the functions.
pub mod Spans
pub mod Sweeping
pub mod Turns
