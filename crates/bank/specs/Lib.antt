pub mod Words
pub mod Agreement
pub mod Steps
pub mod Tables
