-- What the arena holds while classes are listed.
pub mod Queue
