pub mod Bytes
pub mod Jump
pub mod Revert
pub mod Guard
pub mod Length
pub mod Dense
