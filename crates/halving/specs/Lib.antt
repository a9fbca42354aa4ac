-- What is promised of a class that is made of pairs.
pub mod Halves
