pub mod Limits
pub mod Sums
pub mod Boxes
pub mod Laws
