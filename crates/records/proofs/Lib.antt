-- The laws behind the proofs of the functions.
pub mod Places
pub mod Kept
pub mod Told
