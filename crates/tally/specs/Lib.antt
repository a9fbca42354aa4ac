-- Bounds of counts.
pub mod Bounds
