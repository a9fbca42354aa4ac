-- Proofs that the functions meet their contracts.
pub mod Chains
pub mod Laws
pub mod OneLess
