-- What is promised of pairs of classes.
pub mod Pairs
