-- What a reader of the product must believe: document 01 as definitions, in its own order.
pub mod Limits
pub mod Bag
pub mod Box
pub mod Parted
pub mod Made
pub mod Job
pub mod Placed
pub mod Numbers
pub mod Items
pub mod Checker
pub mod Planner
pub mod Decimal
pub mod Text
pub mod Printed
pub mod Answers
pub mod Promise
pub mod Table
