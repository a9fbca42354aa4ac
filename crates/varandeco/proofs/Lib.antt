-- Laws for the proofs of this crate, and that its contracts determine what is handed out.
pub mod Laws
pub mod Once
