pub mod Opcode
pub mod Lists
