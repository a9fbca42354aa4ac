-- What the steps of the planner answer and leave, and what planner and checker promise together.
pub mod Plans
pub mod Promise
