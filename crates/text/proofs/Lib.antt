pub mod Emitted
mod Lengths
mod Tallies
mod Counts
mod Stacks
mod Writings
pub mod Calls
