-- What unfolding a record writes.
pub mod Laying
