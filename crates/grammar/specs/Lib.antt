pub mod Forms
pub mod Wants
pub mod States
pub mod Orders
