pub mod Accepts
pub mod Ordered
