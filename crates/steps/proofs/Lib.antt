pub mod Mapped
pub mod Layings
pub mod Actings
pub mod Runnings
