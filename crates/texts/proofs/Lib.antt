pub mod Writes
pub mod Texts
pub mod Outs
pub mod Sheets
pub mod SiteCells
pub mod Joins
