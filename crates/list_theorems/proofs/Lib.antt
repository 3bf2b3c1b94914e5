mod Cases
mod Words
pub mod ListCodes
pub mod ListFormed
pub mod ListLevels
pub mod Granted
mod Under
mod ByKey
mod Pairs
mod Looks
mod WordLaws
mod TypeSame
pub mod EntrySame
