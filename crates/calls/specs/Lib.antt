pub mod Facts
pub mod Run
pub mod Terms
pub mod Claims
pub mod Fits
pub mod Demand3
