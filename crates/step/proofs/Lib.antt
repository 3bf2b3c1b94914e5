pub mod Labelled
pub mod Arriving
pub mod Refusing
pub mod Planning
pub mod Outcomes
pub mod Taking
