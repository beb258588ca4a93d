pub mod Outcomes
pub mod Values
pub mod Back
pub mod Only
pub mod First
