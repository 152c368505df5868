pub mod Builds
pub mod History
pub mod Lawful
pub mod Carried
pub mod Sheets
