-- What a class holds while it grows.
pub mod Growing
pub mod Rows
