pub mod Refusals
pub mod Meaning
pub mod Tallied
pub mod Lists
pub mod Rasters
pub mod Laws
