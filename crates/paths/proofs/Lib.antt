pub mod Frame
pub mod Walk
pub mod Tail
pub mod Chaining
pub mod Climbing
pub mod Spotting
mod Growth
pub mod Finds
mod Seens
pub mod Kept
pub mod Reach
pub mod Alike
pub mod Lookups
pub mod Sounds
pub mod Adds
pub mod PathLaws
pub mod Keys
pub mod Agreeing
pub mod Changing
pub mod Lending
