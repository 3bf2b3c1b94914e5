pub mod Questions
pub mod Call
pub mod Decide
