mod Ranges
pub mod Codes
pub mod Decimals
pub mod Texts
