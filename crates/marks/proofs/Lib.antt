pub mod NameLaws
pub mod MarkLaws
pub mod BelowLaws
pub mod WalkLaws
pub mod Counts
pub mod NameSounds
pub mod HintSounds
