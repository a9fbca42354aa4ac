-- What the best of a list is.
pub mod Best
