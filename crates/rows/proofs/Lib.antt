pub mod Orders
pub mod Ranks
pub mod Remainders
pub mod Looping
pub mod Fills
pub mod Lawfuls
pub mod Tiled
pub mod Ahead
