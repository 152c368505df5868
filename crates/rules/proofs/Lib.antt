pub mod Empty
pub mod Lists
pub mod Standing
pub mod Orderly
pub mod Left
pub mod Fits
pub mod Added
pub mod Onward
