pub mod Names
pub mod Hints
pub mod Dropping
pub mod Below
