pub mod Stored
pub mod Entries
pub mod Parts
pub mod Plans
pub mod Filled
pub mod Said
pub mod TrackParts
