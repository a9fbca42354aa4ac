-- Parts of counts.
pub mod Parts
