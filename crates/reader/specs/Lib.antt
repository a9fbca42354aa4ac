-- The number at a place of a text.
pub mod Number
