-- The laws behind the proofs of the functions.
pub mod Entries
pub mod Types
pub mod Seeking
pub mod Counting
pub mod Summing
