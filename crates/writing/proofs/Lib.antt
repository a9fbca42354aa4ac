-- Laws for the proofs of this crate.
pub mod Paste
pub mod Digits
pub mod Answers
pub mod Lines
pub mod House
pub mod Back
pub mod Within
