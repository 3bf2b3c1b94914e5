pub mod Asking
pub mod Outcomes
