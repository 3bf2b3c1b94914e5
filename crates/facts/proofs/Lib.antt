pub mod Laws
pub mod Counts
pub mod Distinct
pub mod Chains
mod Weights
mod Check
mod Zeros
pub mod Whole
pub mod Kids
pub mod Encode
pub mod States
pub mod Lone
