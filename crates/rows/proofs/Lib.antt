pub mod Histories
pub mod Bits
pub mod Trying
pub mod Telling
