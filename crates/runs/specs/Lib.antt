pub mod Frames
pub mod Verdicts
pub mod Plugs
pub mod Calls
pub mod Theorems
