pub mod Wholes
pub mod Putting
pub mod Outcomes
