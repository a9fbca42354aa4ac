-- The boxes of a list.
pub mod Laid
