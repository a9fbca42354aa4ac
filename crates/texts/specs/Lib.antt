-- What the readers of texts answer.
pub mod Told
pub mod Plan
