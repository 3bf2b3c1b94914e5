mod Places
mod Digits
mod Lengths
mod Denses
mod Reverts
