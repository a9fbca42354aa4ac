-- What parting asks of boxes by their lines, and what it answers.
pub mod Region
