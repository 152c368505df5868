pub mod Cubes
pub mod Boxed
pub mod Orderly
pub mod Added
pub mod Onward
