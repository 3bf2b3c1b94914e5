mod Following
mod TermLaws
pub mod Demand3
pub mod Keeping
pub mod Fitting
