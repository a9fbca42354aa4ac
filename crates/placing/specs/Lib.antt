-- What the tests of a placement list ask for and answer.
pub mod Place
