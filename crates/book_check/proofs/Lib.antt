pub mod Nexts
pub mod Finds
pub mod Judgings
pub mod Clears
pub mod Resolvings
pub mod Stays
pub mod Orders
