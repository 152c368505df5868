pub mod Totals
pub mod Fills
pub mod Counting
