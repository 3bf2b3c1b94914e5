pub mod Elementary
pub mod Ascii
pub mod Decimal
pub mod Text
