pub mod Kept
pub mod Stacks
pub mod Tests
pub mod Readings
