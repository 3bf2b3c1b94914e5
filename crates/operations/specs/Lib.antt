pub mod Run
pub mod Asks
pub mod Frame
