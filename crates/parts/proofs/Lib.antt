-- Proofs that the functions meet their contracts, and laws of parts of counts.
pub mod Portions
pub mod Parts
pub mod Number
