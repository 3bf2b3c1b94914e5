-- Laws that the proofs cite, and the theorems on types and their codes.
pub mod KindLaws
pub mod Formed
pub mod Append
pub mod Roots
pub mod Sizes
pub mod Unique
pub mod Nodes
pub mod Joined
pub mod Shorts
