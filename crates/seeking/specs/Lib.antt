-- The class that is open at the arena's end.
pub mod Opened
