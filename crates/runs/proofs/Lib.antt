pub mod Histories
pub mod Verdicts
pub mod Calls
