pub mod Stops
pub mod Laying
pub mod Acting
