-- The arena's bytes, and the records they hold.
pub mod Bytes
pub mod Records
