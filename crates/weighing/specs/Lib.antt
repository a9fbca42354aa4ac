-- What keys weigh.
pub mod Weights
