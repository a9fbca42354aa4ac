-- The laws behind the proofs of the functions.
pub mod Laying
pub mod Overlaps
pub mod Numbering
