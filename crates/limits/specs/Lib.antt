pub mod Between
pub mod Codes
pub mod Confidences
pub mod Fields
pub mod Input
pub mod Layout
pub mod Limits
pub mod Refusal
