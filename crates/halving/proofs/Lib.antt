-- Proofs that the functions meet their contracts.
pub mod Laws
pub mod Odometer
