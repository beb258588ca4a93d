pub mod Bench
pub mod StationLines
