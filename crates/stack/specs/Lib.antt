pub mod Held
pub mod Moves
