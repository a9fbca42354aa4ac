-- Jobs and answers as slices of numbers.
pub mod Reply
pub mod Slice
