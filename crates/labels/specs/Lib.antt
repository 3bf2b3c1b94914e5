pub mod Label
pub mod Formed
pub mod Step
pub mod Elements
pub mod Operands
pub mod Stack
pub mod Read
