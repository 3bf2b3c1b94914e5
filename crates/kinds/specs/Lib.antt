pub mod Kinds
pub mod Fill
pub mod Missing
