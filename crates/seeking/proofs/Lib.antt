-- Proofs that the functions meet their contracts.
pub mod Opened
