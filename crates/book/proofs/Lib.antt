pub mod Scans
pub mod Checkings
