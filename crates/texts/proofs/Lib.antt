-- Laws for the proofs of this crate.
pub mod Ends
pub mod Judged
pub mod JobTexts
pub mod PlanTexts
pub mod Once
pub mod Behind
pub mod Refusals
