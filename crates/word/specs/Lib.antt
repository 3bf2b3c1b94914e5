pub mod Value
pub mod Numbers
pub mod Arithmetic
pub mod Kept
pub mod Multiplier
pub mod Range
