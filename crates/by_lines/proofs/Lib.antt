pub mod Onward
pub mod Judged
