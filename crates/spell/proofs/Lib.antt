-- Laws that the proofs cite, and theorems for the crates above.
pub mod Stores
mod Decimals
pub mod Spellings
