pub mod Events
pub mod Reports
pub mod Kept
pub mod Listed
pub mod Scanning
pub mod Listing
