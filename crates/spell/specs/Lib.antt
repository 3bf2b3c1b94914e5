pub mod Stored
pub mod Writer
