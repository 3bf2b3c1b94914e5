pub mod Call
pub mod Machine
pub mod Weight
