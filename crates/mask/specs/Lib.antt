pub mod Mask
pub mod Readings
pub mod Run
