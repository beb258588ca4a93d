pub mod Orders
pub mod Twins
pub mod Tallies
pub mod Refusing
pub mod Lists
