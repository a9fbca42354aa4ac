-- The laws behind the proofs of the functions.
pub mod Verdict
pub mod Meaning
