pub mod Tree
pub mod Codes
pub mod Text
pub mod Kind
pub mod Root
