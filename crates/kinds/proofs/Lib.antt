pub mod DynamicLaws
mod UpLaws
pub mod FillLaws
pub mod Counts
pub mod KindSounds
pub mod ChainLaws
