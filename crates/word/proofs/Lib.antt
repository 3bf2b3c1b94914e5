-- Laws that the proofs cite, and theorems for the crates above.
pub mod Limbs
pub mod Comparisons
pub mod Powers
pub mod Ranges
pub mod Multipliers
pub mod EightNumbers
