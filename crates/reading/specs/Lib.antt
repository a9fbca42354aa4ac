-- What the reader answers.
pub mod Walked
pub mod Pieces
pub mod Sections
pub mod Placements
