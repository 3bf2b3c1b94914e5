pub mod Group
pub mod Call
