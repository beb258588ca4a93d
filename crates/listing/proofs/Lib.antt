pub mod Scans
pub mod Kept
pub mod Frames
