-- What the writers answer, and the steps in which they write.
pub mod Answer
pub mod Steps
