pub mod Derive
pub mod Laws
