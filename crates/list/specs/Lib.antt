pub mod Seen
pub mod Looks
pub mod Budget
pub mod Walk
pub mod Types
