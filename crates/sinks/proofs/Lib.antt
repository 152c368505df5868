pub mod Materials
pub mod Blocks
pub mod Shares
pub mod Places
pub mod Grids
pub mod Chains
