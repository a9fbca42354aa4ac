-- What the check of a job's numbers answers.
pub mod Item
