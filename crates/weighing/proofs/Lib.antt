-- Proofs that the functions meet their contracts, and laws of what keys weigh.
pub mod Laws
