pub mod Pages
pub mod Before
pub mod Verdicts
pub mod Holds
