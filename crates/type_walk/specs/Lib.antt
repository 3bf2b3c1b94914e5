pub mod Plan
pub mod Walk
