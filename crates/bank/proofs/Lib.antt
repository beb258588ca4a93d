pub mod Items
pub mod Moves
pub mod Turns
pub mod Agreeing
pub mod Shown
pub mod Premises
