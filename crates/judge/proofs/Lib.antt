pub mod Balanced
pub mod Levels
pub mod Accepted
pub mod Filed
