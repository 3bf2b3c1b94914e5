pub mod Words
pub mod Dynamics
pub mod Answer
pub mod Call
