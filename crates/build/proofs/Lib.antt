pub mod Stacked
pub mod Histories
pub mod Callings
