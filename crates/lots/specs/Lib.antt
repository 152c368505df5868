pub mod Lists
pub mod Shares
pub mod Verdicts
pub mod Holds
