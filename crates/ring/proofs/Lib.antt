pub mod Turn
pub mod Tails
