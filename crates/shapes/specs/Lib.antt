-- What the shapes of the code stand for in the rules.
pub mod Answer
pub mod Handed
