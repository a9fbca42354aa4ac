-- The laws that the proofs of this crate cite, and the promise of planner and checker together.
pub mod Laws
pub mod Promise
