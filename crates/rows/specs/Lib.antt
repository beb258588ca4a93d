pub mod Bits
pub mod Matches
