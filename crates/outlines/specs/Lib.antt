-- What listing all outlines leaves in the arena.
pub mod Listing
