pub mod Answer
pub mod Closed
