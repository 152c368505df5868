pub mod Faults
pub mod Resolved
pub mod Checked
