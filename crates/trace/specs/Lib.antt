pub mod Numbers
pub mod Fits
pub mod Group
pub mod Entry
pub mod Text
pub mod Lines
pub mod Readings
