pub mod Summing
pub mod Keeps
pub mod Once
