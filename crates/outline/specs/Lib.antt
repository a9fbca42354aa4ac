-- What outlines of the code stand for.
pub mod Stands
