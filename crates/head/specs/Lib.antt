pub mod Held
pub mod Asked
pub mod Admitting
pub mod Fresh
