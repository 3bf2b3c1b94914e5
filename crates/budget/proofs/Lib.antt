pub mod KidLaws
pub mod LevelLaws
pub mod WalkLaws
mod SumLaws
pub mod Spends
pub mod Shallows
pub mod Answers
